-- More numbers than a family of makers or a command has.
use Rattle.qd_engine.proofs.Names.{◌≡◌, ℕ, ◌≤◌, List, [], ◌∷◌, length, Option, Some, None, refl, arith, option_map, option_and_then, String, string_bytes, Global, numbers_of, maker_by, maker_of_family, number_word, texts, report_by, report_of_words}

-- what gives nothing gives nothing of any number
pub nothing : {A B : Type 0} (o : Option A) → option_and_then {U = B} (λ x. None) o ≡ None
nothing None = refl
nothing (Some x) = refl

-- one number more
past_one : {B : Type 0} (f : List ℕ → Option B) (number : Option ℕ) (numbers : Option (List ℕ))
    → ((n : ℕ) → option_and_then (λ ns. f (n ∷ ns)) numbers ≡ None) → option_and_then f (option_and_then (λ n. option_map (λ ns. n ∷ ns) numbers) number) ≡ None
past_one f None numbers none = refl
past_one f (Some n) None none = refl
past_one f (Some n) (Some ns) none = none n

past : {B : Type 0} (f : List ℕ → Option B) (word : List ℕ) (words : List (List ℕ)) → ((n : ℕ) → option_and_then (λ ns. f (n ∷ ns)) (numbers_of words) ≡ None)
    → option_and_then f (numbers_of (word ∷ words)) ≡ None
past f word words none = past_one f (number_word word) (numbers_of words) none

-- no family has five numbers
pub many_numbers : (family a b c p next : List ℕ) (rest : List (List ℕ)) → maker_of_family family (a ∷ b ∷ c ∷ p ∷ next ∷ rest) ≡ None
many_numbers family a b c p next rest =
    past (maker_by family) a (b ∷ c ∷ p ∷ next ∷ rest)
    (λ x. past (λ ns. maker_by family (x ∷ ns)) b (c ∷ p ∷ next ∷ rest)
    (λ y. past (λ ns. maker_by family (x ∷ y ∷ ns)) c (p ∷ next ∷ rest)
    (λ z. past (λ ns. maker_by family (x ∷ y ∷ z ∷ ns)) p (next ∷ rest)
    (λ u. past (λ ns. maker_by family (x ∷ y ∷ z ∷ u ∷ ns)) next rest (λ v. nothing (numbers_of rest))))))

-- no other command has three
pub many_reports : (word a b next : List ℕ) (rest : List (List ℕ)) → report_of_words word (a ∷ b ∷ next ∷ rest) ≡ None
many_reports word a b next rest =
    past (report_by word) a (b ∷ next ∷ rest)
    (λ x. past (λ ns. report_by word (x ∷ ns)) b (next ∷ rest) (λ y. past (λ ns. report_by word (x ∷ y ∷ ns)) next rest (λ z. nothing (numbers_of rest))))

-- the same by how many there are
pub five_numbers : (family : List ℕ) (numbers : List (String Global)) → 5 ≤ length numbers → maker_of_family family (texts numbers) ≡ None
five_numbers family [] long = absurd (omega arith)
five_numbers family (a ∷ []) long = absurd (omega arith)
five_numbers family (a ∷ b ∷ []) long = absurd (omega arith)
five_numbers family (a ∷ b ∷ c ∷ []) long = absurd (omega arith)
five_numbers family (a ∷ b ∷ c ∷ p ∷ []) long = absurd (omega arith)
five_numbers family (a ∷ b ∷ c ∷ p ∷ next ∷ rest) long =
    many_numbers family (string_bytes a) (string_bytes b) (string_bytes c) (string_bytes p) (string_bytes next) (texts rest)

pub three_numbers : (word : List ℕ) (numbers : List (String Global)) → 3 ≤ length numbers → report_of_words word (texts numbers) ≡ None
three_numbers word [] long = absurd (omega arith)
three_numbers word (a ∷ []) long = absurd (omega arith)
three_numbers word (a ∷ b ∷ []) long = absurd (omega arith)
three_numbers word (a ∷ b ∷ next ∷ rest) long = many_reports word (string_bytes a) (string_bytes b) (string_bytes next) (texts rest)
