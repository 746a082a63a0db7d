-- Words that begin with `-`, and empty ones, are no names of commands or of families, and no numbers.
use Rattle.qd_engine.proofs.Names.{◌≡◌, ℕ, zero, suc, Bool, true, false, ◌&&◌, nat_eq, cond, List, [], ◌∷◌, codes, Option, Some, None, refl, ap, ◌∙◌, slice_get, list_all, option_map, option_and_then, eqb-true, number_of, is_word, not, number_word, numbers_of, maker_by, maker_of, generate, report_by, report_of_words, command_of}
use Rattle.command_words.specs.PlainWords.{is_plain}
use Rattle.qd_engine.specs.WordLaws.{DashIsNoCommand, UnplainIsNoCommand}
use Rattle.qd_engine.proofs.MakerWords.{nothing}

either_none : {A : Type 0} (b : Bool) (x : Option A) → x ≡ None → cond b x None ≡ None
either_none true x e = e
either_none false x e = refl

both_none : {A : Type 0} (b : Bool) (x y : Option A) → x ≡ None → y ≡ None → cond b x y ≡ None
both_none true x y e h = e
both_none false x y e h = h

none_of : {A B : Type 0} (f : A → Option B) (o : Option A) → ((x : A) → f x ≡ None) → option_and_then f o ≡ None
none_of f None none = refl
none_of f (Some x) none = none x

-- ---- a word that is no number, and no name of a family or of a command

record IsNoWord (word : List ℕ) : Type 0 where
  number : number_word word ≡ None
  family : (numbers : List ℕ) → maker_by word numbers ≡ None
  command : (words : List (List ℕ)) → command_of (word ∷ words) ≡ None

dash_family : (rest numbers : List ℕ) → maker_by (45 ∷ rest) numbers ≡ None
dash_family rest [] = refl
dash_family rest (n ∷ []) = refl
dash_family rest (n ∷ p ∷ []) = refl
dash_family rest (a ∷ b ∷ c ∷ []) = refl
dash_family rest (a ∷ b ∷ c ∷ p ∷ []) = refl
dash_family rest (a ∷ b ∷ c ∷ p ∷ next ∷ more) = refl

dash_report : (rest numbers : List ℕ) → report_by (45 ∷ rest) numbers ≡ None
dash_report rest [] = refl
dash_report rest (q ∷ []) = refl
dash_report rest (q ∷ m ∷ []) = refl
dash_report rest (q ∷ m ∷ next ∷ more) = refl

dash : (rest : List ℕ) → IsNoWord (45 ∷ rest)
unfolding number_of
dash rest = record {
  number = either_none _ None refl;
  family = dash_family rest;
  command = λ words. none_of (report_by (45 ∷ rest)) (numbers_of words) (dash_report rest);
}

empty_family : (numbers : List ℕ) → maker_by [] numbers ≡ None
empty_family [] = refl
empty_family (n ∷ []) = refl
empty_family (n ∷ p ∷ []) = refl
empty_family (a ∷ b ∷ c ∷ []) = refl
empty_family (a ∷ b ∷ c ∷ p ∷ []) = refl
empty_family (a ∷ b ∷ c ∷ p ∷ next ∷ more) = refl

empty_report : (numbers : List ℕ) → report_by [] numbers ≡ None
empty_report [] = refl
empty_report (q ∷ []) = refl
empty_report (q ∷ m ∷ []) = refl
empty_report (q ∷ m ∷ next ∷ more) = refl

empty : IsNoWord []
empty = record {
  number = refl;
  family = empty_family;
  command = λ words. none_of (report_by []) (numbers_of words) empty_report;
}

-- ---- words with such a word are no command

no_numbers : (words : List (List ℕ)) (i : ℕ) (word : List ℕ) → IsNoWord word → slice_get words i ≡ Some word → numbers_of words ≡ None
no_numbers [] i word odd at = absurd cc
no_numbers (x ∷ words) zero word odd at =
    let is : x ≡ word = cc in
    ap (λ w. numbers_of (w ∷ words)) is ∙ ap (option_and_then (λ n. option_map (λ ns. n ∷ ns) (numbers_of words))) odd.number
no_numbers (x ∷ words) (suc i) word odd at =
    ap (λ (ns : Option (List ℕ)). option_and_then (λ n. option_map (λ ns. n ∷ ns) ns) (number_word x)) (no_numbers words i word odd at) ∙ nothing (number_word x)

no_maker : (words : List (List ℕ)) (i : ℕ) (word : List ℕ) → IsNoWord word → slice_get words i ≡ Some word → maker_of words ≡ None
no_maker [] i word odd at = refl
no_maker (family ∷ words) zero word odd at =
    let is : family ≡ word = cc in
    ap (λ w. maker_of (w ∷ words)) is ∙ none_of (maker_by word) (numbers_of words) odd.family
no_maker (family ∷ words) (suc i) word odd at = ap (option_and_then (maker_by family)) (no_numbers words i word odd at)

no_command : (words : List (List ℕ)) (i : ℕ) (word : List ℕ) → IsNoWord word → slice_get words i ≡ Some word → command_of words ≡ None
no_command [] i word odd at = refl
no_command (x ∷ words) zero word odd at = let is : x ≡ word = cc in ap (λ w. command_of (w ∷ words)) is ∙ odd.command words
no_command (x ∷ words) (suc i) word odd at =
    both_none (is_word x (codes "gen")) (option_map generate (maker_of words)) (report_of_words x words)
    (ap (option_map generate) (no_maker words i word odd at)) (ap (option_and_then (report_by x)) (no_numbers words i word odd at))

pub dash_is_no_command : DashIsNoCommand
dash_is_no_command words i [] at begins = absurd cc
dash_is_no_command words i (byte ∷ rest) at begins = no_command words i (45 ∷ rest) (dash rest) (at ∙ ap (λ b. Some (b ∷ rest)) begins)

-- ---- words that are not plain

-- a word that is not plain, and its place
record Unplain (words : List (List ℕ)) : Type 0 where
  place : ℕ
  word : List ℕ
  at : slice_get words place ≡ Some word
  odd : IsNoWord word

dash_byte : (byte : ℕ) → not (nat_eq byte 45) ≡ false → byte ≡ 45
dash_byte byte e = by (nat_eq byte 45) refl e
  where
    by : (b : Bool) → nat_eq byte 45 ≡ b → not b ≡ false → byte ≡ 45
    by true is e = eqb-true byte 45 is
    by false is e = absurd cc

unplain_word : (word : List ℕ) → is_plain word ≡ false → IsNoWord word
unplain_word [] e = empty
unplain_word (byte ∷ rest) e = rw (dash_byte byte e) (dash rest)

some_unplain : (words : List (List ℕ)) → list_all is_plain words ≡ false → Unplain words
some_unplain [] e = absurd cc
some_unplain (word ∷ words) e = by (is_plain word) refl (some_unplain words) e
  where
    by : (b : Bool) → is_plain word ≡ b → (list_all is_plain words ≡ false → Unplain words) → b && list_all is_plain words ≡ false → Unplain (word ∷ words)
    by false is later e = record { place = 0; word = word; at = refl; odd = unplain_word word is }
    by true is later e =
        let found = later e in
        record { place = suc found.place; word = found.word; at = found.at; odd = found.odd }

pub unplain_is_no_command : UnplainIsNoCommand
unplain_is_no_command [] e = refl
unplain_is_no_command (word ∷ words) e = let found = some_unplain (word ∷ words) e in no_command (word ∷ words) found.place found.word found.odd found.at
