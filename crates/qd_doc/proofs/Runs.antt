-- What may stand at each place of a document, run after run.
use Rattle.qd_doc.proofs.Names.{Bool, Form, Lexeme, List, Natural, One, OrderNumber, Qdouble, Run, Table, What, Word, [], ap, append_assoc, arith, codes, cond, ending, entry_runs, expected, exponent_runs, false, front_runs, get_or-take, inl, inr, is_word, kind_at, le-ltb, length, length-take-le, lt-ltb, ltb-false, nat_lt, number_at, once, refl, runs_after, suc, sum_by, sum_by-append, sum_by-cons, sym, take, text, text_at, times, true, value, ℕ, ◌*◌, ◌++◌, ◌+◌, ◌-◌, ◌<◌, ◌∙◌, ◌∷◌, ◌≡◌, ◌≤◌, ◌⊎◌}
use Rattle.std.proofs.lemmas.Bool.Decides.{nat_tests}
use Rattle.qd_text.specs.declared.expected.Expected.TheVariants.{Order}

-- how many tokens these runs are
abbrev pub total : List Run → ℕ
total runs = sum_by (λ (run : Run). run.count) runs

pub kind_at-nil : (later : ℕ → What) (place : ℕ) → kind_at [] later place ≡ later place
unfolding kind_at
kind_at-nil later place = refl

kind_at-cons : (run : Run) (runs : List Run) (later : ℕ → What) (place : ℕ)
    → kind_at (run ∷ runs) later place ≡ cond (nat_lt place run.count) run.kind (kind_at runs later (place - run.count))
unfolding kind_at
kind_at-cons run runs later place = refl

-- a place within the first run
pub kind_at-within : (count : ℕ) (kind : What) (runs : List Run) (later : ℕ → What) (place : ℕ) → place < count
    → kind_at (times count kind ∷ runs) later place ≡ kind
kind_at-within count kind runs later place within =
    let e : nat_lt place count ≡ true = lt-ltb place count within in
    rw (kind_at-cons (times count kind) runs later place, e) refl

-- a place past the first run
pub past_by : (place count k : ℕ) (kind : What) (runs : List Run) (later : ℕ → What) → place ≡ count + k
    → kind_at (times count kind ∷ runs) later place ≡ kind_at runs later k
past_by place count k kind runs later at =
    let e : nat_lt place count ≡ false = le-ltb place count (omega arith) in
    let here : place - count ≡ k = omega arith in
    rw (kind_at-cons (times count kind) runs later place, e, here) refl

below_or_not : (place n : ℕ) → (place < n) ⊎ (n ≤ place)
below_or_not place n = grind arith

-- a place past the first token of the first run
pub kind_at-next : (count k : ℕ) (kind : What) (runs : List Run) (later : ℕ → What)
    → kind_at (times (suc count) kind ∷ runs) later (suc k) ≡ kind_at (times count kind ∷ runs) later k
kind_at-next count k kind runs later =
    let test : nat_lt (suc k) (suc count) ≡ nat_lt k count = grind (arith, nat_tests) in
    let rest : suc k - suc count ≡ k - count = omega arith in
    rw (kind_at-cons (times (suc count) kind) runs later (suc k), kind_at-cons (times count kind) runs later k, test, rest) refl

cond_same : {A : Type 0} (b : Bool) (x y z : A) → (b ≡ false → y ≡ z) → cond b x y ≡ cond b x z
cond_same true x y z h = refl
cond_same false x y z h = h refl

-- the runs that follow and what comes after them say nothing of places before their end
kind_at-front : (front a b : List Run) (f g : ℕ → What) (place : ℕ) → place < total front → kind_at (front ++ a) f place ≡ kind_at (front ++ b) g place
kind_at-front [] a b f g place within = absurd (omega arith)
kind_at-front (run ∷ front) a b f g place within =
    kind_at-cons run (front ++ a) f place
    ∙ cond_same (nat_lt place run.count) run.kind _ _
    (λ e. kind_at-front front a b f g (place - run.count)
    (omega (arith, ltb-false place run.count e, sum_by-cons (λ (run : Run). run.count) run front)))
    ∙ sym (kind_at-cons run (front ++ b) g place)

-- a number or a text before a place is that of the whole list
text_at-take : (all : List Lexeme) (place k : ℕ) → k < place → text_at (take place all) k ≡ text_at all k
text_at-take all place k before = ap (λ (token : Lexeme). token.text) (get_or-take place all k (record { start = 0; text = [] }) before)

number_at-take : (all : List Lexeme) (place k : ℕ) → k < place → number_at (take place all) k ≡ number_at all k
number_at-take all place k before = ap value (text_at-take all place k before)

total-front : (n : ℕ) → total (front_runs n) ≡ n * n + 9
unfolding front_runs
total-front n = omega arith

-- how many entries are listed says nothing of the places up to this number
listed-later : (n : ℕ) (text : List ℕ) (listed other : ℕ) (f : ℕ → What) (place : ℕ) → place ≤ n * n + 9
    → kind_at (front_runs n ++ exponent_runs text n listed) f place ≡ kind_at (front_runs n ++ exponent_runs text n other) f place
unfolding exponent_runs
listed-later n text listed other f place within = by (is_word text (codes "dense")) (is_word text (codes "sparse"))
  where
    runs : Bool → Bool → ℕ → List Run
    runs dense sparse count = cond dense (times (n * n * n) Natural ∷ []) (cond sparse (once Natural ∷ entry_runs n count) [])

    by : (dense sparse : Bool) → kind_at (front_runs n ++ runs dense sparse listed) f place ≡ kind_at (front_runs n ++ runs dense sparse other) f place
    by true sparse = refl
    by false false = refl
    by false true =
        rw (← append_assoc (front_runs n) (once Natural ∷ []) (entry_runs n listed), ← append_assoc (front_runs n) (once Natural ∷ []) (entry_runs n other))
        (kind_at-front (front_runs n ++ once Natural ∷ []) (entry_runs n listed) (entry_runs n other) f f place
        (omega (arith, total-front n, sum_by-append (λ (run : Run). run.count) (front_runs n) (once Natural ∷ []))))

-- the order is token 3: before it, any will do
order-later : (n m : ℕ) (a b : List Run) (f : ℕ → What) (place : ℕ) → place < 5 → kind_at (front_runs n ++ a) f place ≡ kind_at (front_runs m ++ b) f place
unfolding front_runs
order-later n m a b f place within =
    kind_at-front (once (Word Qdouble) ∷ once (Word One) ∷ once (Word Order) ∷ once OrderNumber ∷ once (Word Table) ∷ []) _ _ f f place within

-- what may stand at a place, by the tokens before it, is what may stand there by all tokens
runs_stand : (all : List Lexeme) (f : ℕ → What) (place : ℕ) → kind_at (runs_after (take place all)) f place ≡ kind_at (runs_after all) f place
unfolding runs_after
runs_stand all f place = elim (below_or_not place 5) [
  | inl early ↦ order-later (number_at (take place all) 3) (number_at all 3) _ _ f place early
  | inr later ↦
      let n = number_at all 3 in
      let known : (m : ℕ) → List ℕ → ℕ → What = λ m text listed. kind_at (front_runs m ++ exponent_runs text m listed) f place in
      ap (λ m. known m (text_at (take place all) (m * m + 8)) (number_at (take place all) (m * m + 9))) (number_at-take all place 3 (omega arith))
      ∙ elim (below_or_not place (n * n + 9)) [
        | inl front ↦ kind_at-front (front_runs n) _ _ f f place (omega (arith, total-front n))
        | inr past ↦
            ap (λ text. known n text (number_at (take place all) (n * n + 9))) (text_at-take all place (n * n + 8) (omega arith))
            ∙ elim (below_or_not place (n * n + 10)) [
              | inl here ↦ listed-later n (text_at all (n * n + 8)) (number_at (take place all) (n * n + 9)) (number_at all (n * n + 9)) f place (omega arith)
              | inr listed ↦ ap (known n (text_at all (n * n + 8))) (number_at-take all place (n * n + 9) (omega arith))
            ]
      ]
]

-- what may stand at a place that the tokens reach
pub expected_is : (form : Form) (all : List Lexeme) (place : ℕ) → place ≤ length all
    → expected form (take place all) ≡ kind_at (runs_after all) (ending form (take place all)) place
unfolding expected
expected_is form all place within =
    ap (kind_at (runs_after (take place all)) (ending form (take place all))) (length-take-le place all within)
    ∙ runs_stand all (ending form (take place all)) place
