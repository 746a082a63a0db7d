-- How a parse goes over plain words: each goes to the positional that is next, and the last one takes all that are left.
use Rattle.command_words.proofs.Names.{◌≡◌, ℕ, Bool, true, false, not, ◌&&◌, nat_eq, List, [], ◌∷◌, ◌++◌, Some, None, refl, ap, ◌∙◌, codes, fold, list_all, Row, Rule, Text, Walk, walked, walk_from, settled, nothing_held, idle, positional, built, turn_passes, walk_passes, settle_passes, clap_on_literals, is_plain, are_plain, command_line, found_in}

-- the arguments as they are built
abbrev pub rules : List Rule
rules = (built command_line).top.rules

abbrev found : Text → List Text → List Row
found command values = found_in (command ∷ values)

-- ---- the walk after the first word, and after more

abbrev after_command : Text → Walk
after_command command = record {
  held = record { rows = []; pending = Some (codes "command", command ∷ []); skip = 0 };
  waiting = idle;
  position = 2;
  is_trailing = false;
  stopped = None;
}

abbrev after_value : List Row → Text → Walk
after_value rows v = record {
  held = record { rows = rows; pending = Some (codes "values", v ∷ []); skip = 0 };
  waiting = positional;
  position = 2;
  is_trailing = false;
  stopped = None;
}

no_dash : (byte : ℕ) → not (nat_eq byte 45) ≡ true → nat_eq byte 45 ≡ false
no_dash byte e = by (nat_eq byte 45) e
  where
    by : (b : Bool) → not b ≡ true → b ≡ false
    by true e = absurd cc
    by false e = refl

-- a step over a plain word
first_word : (byte : ℕ) (rest : Text) → nat_eq byte 45 ≡ false → walked rules [] (walk_from nothing_held) (byte ∷ rest) ≡ after_command (byte ∷ rest)
unfolding clap_on_literals
first_word byte rest other = rw other (rw other refl)

second_word : (command : Text) (byte : ℕ) (rest : Text) → nat_eq byte 45 ≡ false
    → walked rules [] (after_command command) (byte ∷ rest) ≡ after_value (found command []) (byte ∷ rest)
unfolding clap_on_literals
second_word command byte rest other = rw other (rw other refl)

next_word : (command : Text) (values : List Text) (v : Text) (byte : ℕ) (rest : Text) → nat_eq byte 45 ≡ false
    → walked rules [] (after_value (found command values) v) (byte ∷ rest) ≡ after_value (found command (values ++ v ∷ [])) (byte ∷ rest)
unfolding clap_on_literals
next_word command [] v byte rest other = rw other (rw other refl)
next_word command (x ∷ xs) v byte rest other = rw other (rw other refl)

-- and what it does passes
first_passes : (byte : ℕ) (rest : Text) → nat_eq byte 45 ≡ false → turn_passes (built command_line).top [] (walk_from nothing_held) (byte ∷ rest) ≡ true
unfolding clap_on_literals
first_passes byte rest other = rw other (rw other refl)

second_passes : (command : Text) (byte : ℕ) (rest : Text) → nat_eq byte 45 ≡ false → turn_passes (built command_line).top [] (after_command command) (byte ∷ rest) ≡ true
unfolding clap_on_literals
second_passes command byte rest other = rw other (rw other refl)

next_passes : (rows : List Row) (v : Text) (byte : ℕ) (rest : Text) → nat_eq byte 45 ≡ false → turn_passes (built command_line).top [] (after_value rows v) (byte ∷ rest) ≡ true
unfolding clap_on_literals
next_passes rows v byte rest other = rw other (rw other refl)

-- ---- the walk over all words

-- how a walk ends: at these rows, with no subcommand, and what it does passes
pub record EndsWith (start : Walk) (words : List Text) (rows : List Row) : Type 0 where
  pub rows_are : (settled rules (fold (walked rules []) start words).held).rows ≡ rows
  pub settles : settle_passes rules false (fold (walked rules []) start words).held ≡ true
  pub passes : walk_passes (built command_line).top [] start words ≡ true

walk_passes-more : (start after : Walk) (word : Text) (words : List Text) → walked rules [] start word ≡ after → turn_passes (built command_line).top [] start word ≡ true
    → walk_passes (built command_line).top [] after words ≡ true → walk_passes (built command_line).top [] start (word ∷ words) ≡ true
unfolding walk_passes
walk_passes-more start after word words step turn rest = rw (step, turn) rest

-- one more word
one_more : (start after : Walk) (word : Text) (words : List Text) (rows : List Row) → walked rules [] start word ≡ after → turn_passes (built command_line).top [] start word ≡ true
    → EndsWith after words rows → EndsWith start (word ∷ words) rows
one_more start after word words rows step turn end = record {
  rows_are = ap (λ (w : Walk). (settled rules (fold (walked rules []) w words).held).rows) step ∙ end.rows_are;
  settles = ap (λ (w : Walk). settle_passes rules false (fold (walked rules []) w words).held) step ∙ end.settles;
  passes = walk_passes-more start after word words step turn end.passes;
}

no_more_values : (command : Text) (values : List Text) (v : Text) → EndsWith (after_value (found command values) v) [] (found command (values ++ v ∷ []))
unfolding clap_on_literals
no_more_values command [] v = record { rows_are = refl; settles = refl; passes = refl }
no_more_values command (x ∷ xs) v = record { rows_are = refl; settles = refl; passes = refl }

no_values : (command : Text) → EndsWith (after_command command) [] (found command [])
unfolding clap_on_literals
no_values command = record { rows_are = refl; settles = refl; passes = refl }

both : (a b : Bool) → a && b ≡ true → (a ≡ true) × (b ≡ true)
both true b e = (refl, e)
both false b e = absurd cc

append_one : (xs ys : List Text) (v : Text) → (xs ++ v ∷ []) ++ ys ≡ xs ++ v ∷ ys
append_one [] ys v = refl
append_one (x ∷ xs) ys v = ap (λ (zs : List Text). x ∷ zs) (append_one xs ys v)

values_end : (command : Text) (values : List Text) (v : Text) (words : List Text) → list_all is_plain words ≡ true
    → EndsWith (after_value (found command values) v) words (found command (values ++ v ∷ words))
values_end command values v [] plain = no_more_values command values v
values_end command values v ([] ∷ words) plain = absurd cc
values_end command values v ((byte ∷ rest) ∷ words) plain =
    let here = both (not (nat_eq byte 45)) _ plain in
    let other = no_dash byte here.0 in
    let end = values_end command (values ++ v ∷ []) (byte ∷ rest) words here.1 in
    one_more (after_value (found command values) v) (after_value (found command (values ++ v ∷ [])) (byte ∷ rest)) (byte ∷ rest) words _
    (next_word command values v byte rest other) (next_passes (found command values) v byte rest other)
    (rw (append_one values ((byte ∷ rest) ∷ words) v) at end)

command_end : (command : Text) (words : List Text) → list_all is_plain words ≡ true → EndsWith (after_command command) words (found command words)
command_end command [] plain = no_values command
command_end command ([] ∷ words) plain = absurd cc
command_end command ((byte ∷ rest) ∷ words) plain =
    let here = both (not (nat_eq byte 45)) _ plain in
    let other = no_dash byte here.0 in
    one_more (after_command command) (after_value (found command []) (byte ∷ rest)) (byte ∷ rest) words _ (second_word command byte rest other)
    (second_passes command byte rest other) (values_end command [] (byte ∷ rest) words here.1)

pub words_end : (command : Text) (words : List Text) → are_plain (command ∷ words) ≡ true → EndsWith (walk_from nothing_held) (command ∷ words) (found_in (command ∷ words))
words_end [] words plain = absurd cc
words_end (byte ∷ rest) words plain =
    let here = both (not (nat_eq byte 45)) _ plain in
    let other = no_dash byte here.0 in
    one_more (walk_from nothing_held) (after_command (byte ∷ rest)) (byte ∷ rest) words _ (first_word byte rest other) (first_passes byte rest other)
    (command_end (byte ∷ rest) words here.1)
