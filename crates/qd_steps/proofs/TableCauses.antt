-- The cause of a refusal of a table, by what the check of the table says of its first miss.
use Rattle.qd_steps.proofs.Names.{◌≡◌, ℕ, true, List, refl, sym, ap, subst, ◌∙◌, option_map, ℤ, is_conductor, TwistedSubgroup, Characters, characters_of, fit_at, Refuses, Miss, Err, clause_of, left_of, right_of, IsEquationOf, Checks, plain_of, equation, failure, cause_of_miss, cause_over, IsRefusalFor, StepRefusal}
use Rattle.cyclotomic.specs.CyclotomicRing.{CyclotomicValue, cyclotomic_value}
use Rattle.qd_ring.specs.CycArrays.{array_of, is_array}
use Rattle.qd_ring.proofs.CycSums.{array-of_value}
use Rattle.qd_ring.specs.declared.plain.Plain.{Plain}
use Rattle.table_check.specs.Sides.{twist_left}
use Rattle.table_check.specs.declared.identity_name.IdentityName.{IdentityName}
use Rattle.table_check.specs.declared.identity_name.IdentityName.TheVariants as names
use Rattle.table_check.specs.declared.miss.Clause.TheVariants as clauses
use Rattle.table_check.specs.declared.refusal.TableRefusal.{TableRefusal}
use Rattle.table_check.specs.declared.refusal.TableRefusal.TheVariants as refusals
use Rattle.data_print.specs.declared.cause.Cause.TheVariants.{Identity, NoTwist}
use Rattle.qd_steps.specs.declared.refusal.StepRefusal.TheVariants as steps

-- the coefficients of a value are those of the value that they stand for
pub plain_same : (k : ℕ) → is_conductor k ≡ true → (p : Plain) (coefficients : List ℤ) (u : CyclotomicValue k) → is_array k coefficients ≡ true → cyclotomic_value k coefficients ≡ u
    → p.coefficients ≡ coefficients → p ≡ plain_of k u
plain_same k entry p coefficients u array is same =
    let all : p.coefficients ≡ array_of u = same ∙ array-of_value k entry coefficients array ∙ ap array_of is in
    ap (λ (xs : List ℤ). the_plain xs) all
  where
    the_plain : List ℤ → Plain
    the_plain xs = record { coefficients = xs }

module _ {k : ℕ} (s : TwistedSubgroup) (table : Characters k) (miss : Miss) (fit : fit_at s table miss ≡ true) where
  -- where no side overflows, the clause fails
  fails : cause_of_miss s table miss ≡ failure s table miss.clause miss
  fails = rw fit refl

  named : (name : IdentityName) → failure s table (clause_of name) miss ≡ equation s table name miss
  named names.Degree = refl
  named names.Unitary = refl
  named names.Central = refl
  named names.Product = refl
  named names.Sum = refl
  named names.Column = refl

  -- the equation that fails
  pub identity_missed : (name : IdentityName) (at i j x : ℕ) (l r : List ℤ) (left right : Plain) → IsEquationOf s table miss name i j x l r → at ≡ s.at
      → left ≡ plain_of k (left_of s table miss.clause miss.i miss.j miss.x).value → right ≡ plain_of k (right_of s table miss.clause miss.i miss.j miss.x).value
      → Identity name at i j x left right ≡ cause_of_miss s table miss
  identity_missed name at i j x l r left right is same left_is right_is =
      rw (same, is.row, is.second, is.third, left_is, right_is) (sym (fails ∙ ap (λ clause. failure s table clause miss) is.clause ∙ named name))

  -- the row that has no twist
  pub twist_missed : (at row : ℕ) (value : Plain) → miss.clause ≡ clauses.Twist → at ≡ s.at → row ≡ miss.i → value ≡ plain_of k (twist_left s table miss.i).value
      → NoTwist at row value ≡ cause_of_miss s table miss
  twist_missed at row value clause same row_is value_is =
      rw (same, row_is, value_is) (sym (fails ∙ ap (λ clause. failure s table clause miss) clause))

-- the answer to what a check of a table says
pub check_refused : (k : ℕ) (s : TwistedSubgroup) (rows : List (List (List ℤ))) (refusal : TableRefusal k) (answer : StepRefusal) → Checks k s rows (Err refusal)
    → ((t : TwistedSubgroup) (table : Characters k) (miss : Miss) → s.at ≡ t.at → Refuses t table refusal miss → answer ≡ steps.Refused (cause_of_miss t table miss))
    → (refusal ≡ refusals.Memory → answer ≡ steps.Memory) → IsRefusalFor (cause_over k (record { over = s; rows = rows })) answer
check_refused k s rows refusals.Memory answer checks missed memory = subst (IsRefusalFor (cause_over k (record { over = s; rows = rows }))) (sym (memory refl)) tt
check_refused k s rows refusal answer (miss, found, refuses) missed memory =
    subst (IsRefusalFor (cause_over k (record { over = s; rows = rows }))) (sym (missed s (characters_of k rows) miss refl refuses))
    (ap (option_map (cause_of_miss s (characters_of k rows))) found)
