-- The list of the basis of a kernel, row after row.
use Rattle.prime_field.proofs.Names.{◌≡◌, ◌≢◌, inl, inr, ℕ, ◌+◌, ◌*◌, ◌/◌, ◌%◌, ◌<◌, Bool, true, false, get_or, List, length, sym, ◌∙◌, ap, arith, add-zero, not, ◌==◌, nat_tests, mod-eq_of_lt, mod-lt, div-lt_iff_lt-mul, div-add-mod', row_below, column_below, All-get_or, Below, passing_below, IsPassing, passing_below-all, is_modulus, field, field_residue, IsGone, IsSolved, AreBelow, matrix_of, IsTabulated, IsKernelBasis, nought_value}
use Rattle.prime_field.proofs.KernelBasis.{IsTold, basis_reduced, basis_solves, basis_spans}
use Rattle.prime_field.proofs.PolynomialValues.{one_apart}
use Rattle.prime_field.proofs.ResidueRows.{row_of, place_in, table_at, tabulated_below}

-- whether a row begins at the place f
abbrev pub begins_at : List ℕ → ℕ → ℕ → Bool
begins_at rows w f = not (get_or rows (f * w + f) 0 == 0)

-- the places at which a row begins
abbrev pub beginnings : List ℕ → ℕ → List ℕ
beginnings rows w = passing_below w (begins_at rows w)

-- the numbers of the rows at the places that begin one
abbrev pub gathered : List ℕ → List ℕ → ℕ → ℕ → ℕ
gathered rows places w k = get_or rows (get_or places (k / w) 0 * w + k % w) 0

-- these places are below the width
pub begins_below : (w : ℕ) (rows : List ℕ) (i : ℕ) → i < length (beginnings rows w) → get_or (beginnings rows w) i 0 < w
begins_below w rows i h = (All-get_or (IsPassing w (begins_at rows w)) (beginnings rows w) i 0 h (passing_below-all w (begins_at rows w))).below

-- what the test of a number says
other_than_zero : (x : ℕ) → not (x == 0) ≡ true → x ≢ 0
other_than_zero x test = grind (arith, nat_tests)

is_zero : (x : ℕ) → not (x == 0) ≡ false → x ≡ 0
is_zero x test = grind (arith, nat_tests)

-- a row begins where its own number isn't 0, and is gone where that is 0
pub told : (q : ℕ) (listed : is_modulus q ≡ true) (n w : ℕ) (e : ℕ → ℕ → Below q) (rows : List ℕ) → length rows ≡ w * w → AreBelow q rows
    → IsSolved (field q listed) n w e (matrix_of q listed w rows) → IsTold (field q listed) w (matrix_of q listed w rows) (begins_at rows w)
told q listed n w e rows size below solved = record {
  there = λ f h passes. elim (solved.reduced f h) [
    | inl free ↦ free
    | inr gone ↦ absurd (other_than_zero (get_or rows (f * w + f) 0) passes (own_zero f h gone))
  ];
  gone = λ f h fails. elim (solved.reduced f h) [
    | inl free ↦ absurd (one_apart q listed (sym free.one ∙ ap (field_residue q listed) (is_zero (get_or rows (f * w + f) 0) fails)))
    | inr gone ↦ gone
  ];
}
  where
    own_zero : (f : ℕ) → f < w → IsGone (field q listed) w (matrix_of q listed w rows) f → get_or rows (f * w + f) 0 ≡ 0
    own_zero f h gone =
        sym (mod-eq_of_lt (below (f * w + f) (let place = place_in w w f f h h in omega arith)))
        ∙ nought_value q listed (matrix_of q listed w rows f f) (gone f h)

pub kernel_basis : (q : ℕ) (listed : is_modulus q ≡ true) (w : ℕ) (numbers rows basis : List ℕ) → 0 < w → length rows ≡ w * w → AreBelow q rows
    → IsSolved (field q listed) w w (matrix_of q listed w numbers) (matrix_of q listed w rows)
    → IsTabulated (length (beginnings rows w) * w) (gathered rows (beginnings rows w) w) basis → IsKernelBasis q listed w numbers basis
kernel_basis q listed w numbers rows basis some size below solved listing =
    let F = field q listed in
    let e = matrix_of q listed w numbers in
    let p = matrix_of q listed w rows in
    let b = matrix_of q listed w basis in
    let test = begins_at rows w in
    let count = length basis / w in
    let count_is : count ≡ length (beginnings rows w) = ap (λ x. x / w) (listing.count ∙ sym (add-zero _)) ∙ row_of w _ 0 some in
    let is_told : IsTold F w p test = told q listed w w e rows size below solved in
    let at = λ (i m : ℕ) (h : i < count) (k : m < w).
    ap (field_residue q listed) (table_at (length (beginnings rows w)) w (λ i m. get_or rows (get_or (beginnings rows w) i 0 * w + m) 0) basis listing i m (omega arith) k) in
    record {
      whole_rows = listing.count ∙ ap (λ x. x * w) (sym count_is);
      below = tabulated_below q _ _ basis listing
          (λ k less. below _ (let place = place_in w w _ (k % w) (begins_below w rows (k / w) ((div-lt_iff_lt-mul some).1 less)) (mod-lt k some) in omega arith));
      in_kernel = basis_solves F w w e p test solved is_told count b count_is at;
      spans = λ v sv. ((λ i. v (get_or (beginnings rows w) i 0)), basis_spans F w w e p test solved is_told count b count_is at v sv);
      reduced = basis_reduced F w w e p test solved is_told count b count_is at;
    }

-- the numbers of a matrix are below q where its entries are
pub entries_below : (q w : ℕ) (numbers : List ℕ) → length numbers ≡ w * w → ((i j : ℕ) → i < w → j < w → get_or numbers (i * w + j) 0 < q) → AreBelow q numbers
entries_below q w numbers size each k h =
    let less : k < w * w = omega arith in
    rw (← div-add-mod' k w) (each (k / w) (k % w) (row_below w k less) (column_below w k less))
