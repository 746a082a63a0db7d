-- Lifted values are sums of roots of unity.
use Rattle.char_lift.proofs.Names.{◌≡◌, ℕ, ◌<◌, true, List, [], length, get_or, Option, Some, None, refl, sym, ap, ◌∙◌, subst, inl, inr, cases_eq, unwrap_or, is_conductor, cyclotomic_value, array_of, row_at, IsSumOfRoots, TwistedSubgroup, size, element, slice_index_or, first_none-at, sum_of, character_ratios, degree_sum, degree_of, multiplicity, multiplicity_sum, with_multiplicities, lifted_value, place_fault, row_fault, lift_fault, lifted_row, lifted_rows, NoDegree, Multiplicity, length-tabulated, tabulated-at}
use Rattle.qd_ring.proofs.ProductLaws.{value-array_of}
use Rattle.char_lift.specs.Laws.{IsRowOfRoots, LiftedAreRoots, LiftedValues}
use Rattle.char_lift.proofs.DegreeLaws.{degree_means}
use Rattle.char_lift.proofs.ValueLaws.{copies_are_roots, multiplicities_are}
use Rattle.char_lift.proofs.FaultLaws.{row_without, row_with, place_fails, row_is}

some_is_not_none : {A : Type 0} (x : A) → Some x ≡ None → ⊥
some_is_not_none x e = absurd cc

-- a value with multiplicities is a sum of as many roots as they add up to
pub roots_of_multiplicities : (k d : ℕ) (counts : ℕ → ℕ) → sum_of k counts ≡ d → IsSumOfRoots k d (with_multiplicities k counts)
roots_of_multiplicities k d counts adds =
    subst (λ n. IsSumOfRoots k n (with_multiplicities k counts)) adds
    (subst (IsSumOfRoots k (sum_of k counts)) (multiplicities_are k counts) (copies_are_roots k k counts))

module _ (s : TwistedSubgroup) (q k z : ℕ) where
  module _ (row : ℕ) (c : List ℕ) (faultless : row_fault s q k z row c ≡ None) where
    degree_there : (o : Option ℕ) → degree_of s q k z c ≡ o → (d : ℕ) × (degree_of s q k z c ≡ Some d)
    degree_there (Some d) e = (d, e)
    degree_there None e = absurd (some_is_not_none (NoDegree row (degree_sum s q k z c)) (sym (row_without s q k z row c e) ∙ faultless))

    pub row_degree : (d : ℕ) × (degree_of s q k z c ≡ Some d)
    row_degree = degree_there (degree_of s q k z c) refl

    pub row_adds_up : (d x : ℕ) → degree_of s q k z c ≡ Some d → x < size s → multiplicity_sum s q k z c d x ≡ d
    row_adds_up d x e below = elim (cases_eq (multiplicity_sum s q k z c d x) d) [
      | inl same ↦ same
      | inr apart ↦
          absurd (some_is_not_none (Multiplicity row (element s x) (multiplicity_sum s q k z c d x) d)
          (sym (place_fails s q k z row c d x (multiplicity_sum s q k z c d x) refl apart)
          ∙ first_none-at (size s) x (place_fault s q k z row c d) (sym (row_with s q k z row c d e) ∙ faultless) below))
    ]

    pub value_roots : (d x : ℕ) → degree_of s q k z c ≡ Some d → x < size s → IsSumOfRoots k d (lifted_value s q k z c d x)
    value_roots d x e below = roots_of_multiplicities k d (multiplicity s q k z c d x) (row_adds_up d x e below)

  module _ (entry : is_conductor k ≡ true) where
    pub row_value : (c : List ℕ) (d x : ℕ) → degree_of s q k z c ≡ Some d → x < size s → cyclotomic_value k (slice_index_or (lifted_row s q k z c) x []) ≡ lifted_value s q k z c d x
    row_value c d x e below =
        ap (λ r. cyclotomic_value k (get_or r x [])) (row_is s q k z c d e)
        ∙ ap (cyclotomic_value k) (tabulated-at (size s) x (λ y. array_of (lifted_value s q k z c d y)) [] below)
        ∙ value-array_of k entry (lifted_value s q k z c d x)

    pub row_of_roots : (row : ℕ) (c : List ℕ) → row_fault s q k z row c ≡ None → IsRowOfRoots k (size s) (lifted_row s q k z c)
    row_of_roots row c faultless =
        let there = row_degree row c faultless in
        let d = there.0 in
        let is = degree_means q (size s) (degree_sum s q k z c) d there.1 in
        record {
          width = length-tabulated (size s) (λ x. array_of (lifted_value s q k z c (unwrap_or (degree_of s q k z c) 0) x));
          degree = d;
          from_one = is.from_one;
          square = is.square;
          roots = λ x below. subst (IsSumOfRoots k d) (sym (row_value c d x there.1 below)) (value_roots row c faultless d x there.1 below);
        }

  row_at_place : (count : ℕ) (rows : ℕ → ℕ → ℕ) (i : ℕ) → i < count → row_at (lifted_rows s q k z count rows) i ≡ lifted_row s q k z (character_ratios s q k z (rows i))
  row_at_place count rows i below = tabulated-at count i (λ row. lifted_row s q k z (character_ratios s q k z (rows row))) [] below

  no_fault_at : (count : ℕ) (rows : ℕ → ℕ → ℕ) (i : ℕ) → lift_fault s q k z count rows ≡ None → i < count → row_fault s q k z i (character_ratios s q k z (rows i)) ≡ None
  unfolding lift_fault
  no_fault_at count rows i faultless below = first_none-at count i (λ row. row_fault s q k z row (character_ratios s q k z (rows row))) faultless below

  pub rows_of_roots : (count : ℕ) (rows : ℕ → ℕ → ℕ) → is_conductor k ≡ true → lift_fault s q k z count rows ≡ None
      → (length (lifted_rows s q k z count rows) ≡ count) × ((i : ℕ) → i < count → IsRowOfRoots k (size s) (row_at (lifted_rows s q k z count rows) i))
  rows_of_roots count rows entry faultless = (
    length-tabulated count (λ row. lifted_row s q k z (character_ratios s q k z (rows row))),
    λ i below. subst (IsRowOfRoots k (size s)) (sym (row_at_place count rows i below))
        (row_of_roots entry i (character_ratios s q k z (rows i)) (no_fault_at count rows i faultless below)),
  )

  pub rows_values : (count : ℕ) (rows : ℕ → ℕ → ℕ) → is_conductor k ≡ true → lift_fault s q k z count rows ≡ None → (i : ℕ) → i < count
      → (d : ℕ) × (degree_of s q k z (character_ratios s q k z (rows i)) ≡ Some d)
      × ((x : ℕ) → x < size s → cyclotomic_value k (slice_index_or (row_at (lifted_rows s q k z count rows) i) x []) ≡ lifted_value s q k z (character_ratios s q k z (rows i)) d x)
  rows_values count rows entry faultless i below =
      let c = character_ratios s q k z (rows i) in
      let there = row_degree i c (no_fault_at count rows i faultless below) in
      (there.0, there.1, λ x inside. ap (λ r. cyclotomic_value k (get_or r x [])) (row_at_place count rows i below) ∙ row_value entry c there.0 x there.1 inside)

pub lifted_are_roots : LiftedAreRoots
lifted_are_roots s q k z count rows entry faultless = rows_of_roots s q k z count rows entry faultless

pub lifted_values : LiftedValues
lifted_values s q k z count rows entry faultless = rows_values s q k z count rows entry faultless
