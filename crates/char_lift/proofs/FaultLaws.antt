-- What fails first in a row, and in the rows.
use Rattle.char_lift.proofs.Names.{◌≡◌, ℕ, ◌<◌, List, Option, Some, None, sym, ap, ◌∙◌, ne_eqb, unwrap_or, if◌then◌else◌, first, array_of, TwistedSubgroup, size, element, ◌≢◌, eq-eqb, first_found, tabulated, degree_sum, degree_of, multiplicity_sum, lifted_value, place_fault, fault_with, row_fault, lift_fault, lifted_row, Refuses, character_ratios, LiftRefusal, NoDegree, Multiplicity, Memory}

-- what is refused at i, where nothing is found before, is refused of all
pub refused_first : (why : LiftRefusal) (n i : ℕ) (at : ℕ → Option LiftRefusal) → i < n → first i at ≡ None → Refuses why (at i) → Refuses why (first n at)
refused_first (NoDegree row s) n i at below before here = first_found n i at (NoDegree row s) below before here
refused_first (Multiplicity row x sum degree) n i at below before here = first_found n i at (Multiplicity row x sum degree) below before here
refused_first Memory n i at below before here = tt

-- the same of a fault that is another by an equation
pub refused_same : (why : LiftRefusal) (fault other : Option LiftRefusal) → fault ≡ other → Refuses why fault → Refuses why other
refused_same (NoDegree row s) fault other same here = sym same ∙ here
refused_same (Multiplicity row x sum degree) fault other same here = sym same ∙ here
refused_same Memory fault other same here = tt

module _ (s : TwistedSubgroup) (q k z row : ℕ) (c : List ℕ) where
  pub place_holds : (d x sum : ℕ) → sum ≡ multiplicity_sum s q k z c d x → sum ≡ d → place_fault s q k z row c d x ≡ None
  place_holds d x sum is adds =
      ap (λ t. if t then None else Some (Multiplicity row (element s x) (multiplicity_sum s q k z c d x) d)) (eq-eqb (multiplicity_sum s q k z c d x) d (sym is ∙ adds))

  pub place_fails : (d x sum : ℕ) → sum ≡ multiplicity_sum s q k z c d x → sum ≢ d → place_fault s q k z row c d x ≡ Some (Multiplicity row (element s x) sum d)
  place_fails d x sum is apart =
      ap (λ t. if t then None else Some (Multiplicity row (element s x) (multiplicity_sum s q k z c d x) d)) (ne_eqb (multiplicity_sum s q k z c d x) d (λ e. apart (is ∙ e)))
      ∙ ap (λ v. Some (Multiplicity row (element s x) v d)) (sym is)

  pub row_without : degree_of s q k z c ≡ None → row_fault s q k z row c ≡ Some (NoDegree row (degree_sum s q k z c))
  unfolding row_fault
  row_without e = ap (fault_with s q k z row c) e

  pub row_with : (d : ℕ) → degree_of s q k z c ≡ Some d → row_fault s q k z row c ≡ first (size s) (place_fault s q k z row c d)
  unfolding row_fault
  row_with d e = ap (fault_with s q k z row c) e

pub row_is : (s : TwistedSubgroup) (q k z : ℕ) (c : List ℕ) (d : ℕ) → degree_of s q k z c ≡ Some d → lifted_row s q k z c ≡ tabulated (size s) (λ x. array_of (lifted_value s q k z c d x))
row_is s q k z c d e = ap (λ o. tabulated (size s) (λ x. array_of (lifted_value s q k z c (unwrap_or o 0) x))) e

-- ---- the rows
module _ (s : TwistedSubgroup) (q k z count : ℕ) (rows : ℕ → ℕ → ℕ) where
  abbrev pub fault_at : ℕ → Option LiftRefusal
  fault_at row = row_fault s q k z row (character_ratios s q k z (rows row))

  pub rows_hold : (n : ℕ) → n ≡ count → first n fault_at ≡ None → lift_fault s q k z count rows ≡ None
  unfolding lift_fault
  rows_hold n all none_before = ap (λ m. first m fault_at) (sym all) ∙ none_before

  pub rows_refused : (why : LiftRefusal) (row : ℕ) → row < count → first row fault_at ≡ None → Refuses why (fault_at row) → Refuses why (lift_fault s q k z count rows)
  unfolding lift_fault
  rows_refused why row below before here = refused_first why count row fault_at below before here
