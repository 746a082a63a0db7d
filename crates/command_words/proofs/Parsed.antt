-- A parse takes plain words, and finds the first as the command and the others as the values.
use Rattle.command_words.proofs.Names.{◌≡◌, Bool, true, false, ◌&&◌, cond, List, [], ◌∷◌, Some, Option, refl, sym, ap, ◌∙◌, codes, drop, is_some, unwrap_or, list_all, Held, Row, Text, walk, nothing_held, finished, settled, first_of, all_of, built, is_simple, matches_of, takes, level_passes, default_passes, is_valid, clap_on_literals, are_plain, command_line, found_in}
use Rattle.clap.proofs.TakesLemmas.{leaf_takes}
use Rattle.command_words.proofs.Walk.{rules, words_end}

pub is_simple_line : is_simple command_line ≡ true
unfolding clap_on_literals
is_simple_line = refl

all_true : (a b c d : Bool) → a ≡ true → b ≡ true → c ≡ true → d ≡ true → a && (b && (c && d)) ≡ true
all_true true true true true e f g h = refl
all_true false b c d e f g h = absurd cc
all_true true false c d e f g h = absurd cc
all_true true true false d e f g h = absurd cc
all_true true true true false e f g h = absurd cc

either_way : (b : Bool) (rows : List Row) → cond b rows rows ≡ rows
either_way true rows = refl
either_way false rows = refl

-- no argument has a default
no_defaults : (h : Held) → finished rules h ≡ (settled rules h).rows
no_defaults h = either_way _ _ ∙ either_way _ _

valid : (command : Text) (values : List Text) → is_valid (built command_line).top (found_in (command ∷ values)) false ≡ true
valid command [] = refl
valid command (value ∷ values) = refl

defaults_pass : list_all default_passes rules ≡ true
defaults_pass = refl

rows_found : (command : Text) (values : List Text) → are_plain (command ∷ values) ≡ true
    → finished rules (walk rules [] nothing_held (command ∷ values)).held ≡ found_in (command ∷ values)
rows_found command values plain = no_defaults (walk rules [] nothing_held (command ∷ values)).held ∙ (words_end command values plain).rows_are

level : (command : Text) (values : List Text) → are_plain (command ∷ values) ≡ true → level_passes (built command_line).top [] nothing_held (command ∷ values) false ≡ true
level command values plain =
    let end = words_end command values plain in
    all_true _ _ _ _ end.passes end.settles defaults_pass
    (ap (λ (rows : List Row). is_valid (built command_line).top rows false) (rows_found command values plain) ∙ valid command values)

-- a parse takes plain words after any first one, and this is what it finds
pub takes_plain : (all : List Text) → are_plain (drop 1 all) ≡ true → takes command_line all ≡ true
takes_plain [] plain = absurd cc
takes_plain (name ∷ []) plain = absurd cc
takes_plain (name ∷ command ∷ values) plain = leaf_takes (built command_line) nothing_held (command ∷ values) refl (level command values plain)

pub found_plain : (all : List Text) → are_plain (drop 1 all) ≡ true → matches_of command_line all ≡ found_in (drop 1 all)
found_plain [] plain = absurd cc
found_plain (name ∷ []) plain = absurd cc
found_plain (name ∷ command ∷ values) plain = rows_found command values plain

-- the command is there
pub has_command : (words : List Text) → are_plain words ≡ true → is_some (first_of (codes "command") (found_in words)) ≡ true
has_command [] plain = absurd cc
has_command (command ∷ []) plain = refl
has_command (command ∷ value ∷ values) plain = refl

-- and with the values it is the words
pub words_found : (words : List Text) (command : Text) (values : List Text) → are_plain words ≡ true → first_of (codes "command") (found_in words) ≡ Some command
    → values ≡ unwrap_or (all_of (codes "values") (found_in words)) [] → command ∷ values ≡ words
words_found [] command values plain first rest = absurd cc
words_found (word ∷ []) command values plain first rest = rw rest (ap (λ (c : Option Text). unwrap_or c [] ∷ []) (sym first))
words_found (word ∷ next ∷ words) command values plain first rest = rw rest (ap (λ (c : Option Text). unwrap_or c [] ∷ next ∷ words) (sym first))
