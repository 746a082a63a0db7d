-- The lists that the search of a minimal polynomial goes through.
use Rattle.prime_field.proofs.Names.{◌≡◌, ◌⊎◌, inl, inr, ℕ, suc, ◌+◌, ◌-◌, ◌*◌, ◌/◌, ◌%◌, ◌<◌, true, get_or, List, ◌++◌, length, length-append, refl, sym, ◌∙◌, ap, arith, slice_range, nat_eq, not, if◌then◌else◌, cases_eq, cases_lt, ne_eqb, eq-eqb, eqb-true, div-lt_iff_lt-mul, div-add-mod', row_below, column_below, get_or_append_left, get_or-append_right, pick_same, is_modulus, field, field_residue, dot, matrix_power, IsMinimal, IsFree, IsGone, IsSolved, power_equations, IsLastNonzero, AreBelow, column_of, matrix_of, IsTabulated, ListsPowers}
use Rattle.prime_field.proofs.EliminationSteps.{dot_ext}
use Rattle.prime_field.proofs.KernelBasis.{IsTold}
use Rattle.prime_field.proofs.KernelLists.{begins_at, told}
use Rattle.prime_field.proofs.MinimalPolynomial.{power_at_zero, power_at_suc, some_row, last_is_minimal}
use Rattle.prime_field.proofs.PolynomialValues.{residue_field}
use Rattle.prime_field.proofs.ResidueRows.{row_of, column_at, place_in, table_at, tabulated_below, products_below, identity_below, identity_at}
use Rattle.prime_field.proofs.ResidueSums.{residue_of_value, at_slice}

module _ (q : ℕ) (listed : is_modulus q ≡ true) (w : ℕ) (a : List ℕ) where
  -- ---- powers
  pub first_power : (rows : List ℕ) → IsTabulated (w * w) (λ k. if nat_eq (k / w) (k % w) then 1 else 0) rows → ListsPowers q listed w a 1 rows
  first_power rows t = record {
    count = (let c = t.count in omega arith);
    below = identity_below q listed w rows t;
    each = λ k m h l.
        (let first : k ≡ 0 = omega arith in
        let row : m / w < w = row_below w m l in
        let column : m % w < w = column_below w m l in
        let place : k * (w * w) + m ≡ m / w * w + m % w = rw first (omega (arith, div-add-mod' m w)) in
        rw (place, first, power_at_zero (field q listed) w (matrix_of q listed w a) (m % w) (m / w))
        (identity_at q listed w rows t (m / w) (m % w) row column
        ∙ pick_same (field q listed) _ _ (field q listed).one (λ e. eq-eqb _ _ (sym (eqb-true _ _ e))) (λ e. eq-eqb _ _ (sym (eqb-true _ _ e)))));
  }

  pub next_powers : (n : ℕ) (powers next : List ℕ) → ListsPowers q listed w a (n + 1) powers
      → IsTabulated (w * w) (λ m. (dot (field q listed) w (matrix_of q listed w a (m % w)) (matrix_of q listed w (slice_range powers (n * (w * w)) (n * (w * w) + w * w)) (m / w))).value) next
      → ListsPowers q listed w a (n + 1 + 1) (powers ++ next)
  next_powers n powers next front t = record {
    count = omega (arith, length-append powers next, front.count, t.count);
    below = λ k h. elim (cases_lt k (length powers)) [
      | inl early ↦ rw (get_or_append_left powers next 0 k early) (front.below k early)
      | inr late ↦ rw (get_or-append_right powers next (length powers) k 0 refl late)
          (products_below q listed (w * w) w _ _ next t (k - length powers) (omega (arith, length-append powers next)))
    ];
    each = λ k m h l. elim (cases_lt k (n + 1)) [
      | inl early ↦
          (let place : k * (w * w) + m < (n + 1) * (w * w) = place_in (w * w) (n + 1) k m early l in
          rw (get_or_append_left powers next 0 (k * (w * w) + m) (omega (arith, front.count))) (front.each k m early l))
      | inr late ↦
          (let here : k ≡ suc n = omega arith in
          let after : suc n * (w * w) + m - length powers ≡ m = omega (arith, front.count) in
          rw (here, get_or-append_right powers next (length powers) (suc n * (w * w) + m) 0 refl (omega (arith, front.count)), after, t.each m l)
          (residue_of_value q listed _
          ∙ dot_ext (field q listed) w _ _ _ (λ x. matrix_power (field q listed) w (matrix_of q listed w a) n x (m / w)) (λ x y. refl) (column m l)
          ∙ sym (power_at_suc (field q listed) w (matrix_of q listed w a) n (m % w) (m / w))))
    ];
  }
    where
      column : (m : ℕ) → m < w * w → (x : ℕ) → x < w → matrix_of q listed w (slice_range powers (n * (w * w)) (n * (w * w) + w * w)) (m / w) x ≡ matrix_power (field q listed) w (matrix_of q listed w a) n x (m / w)
      column m l x y =
          let place : m / w * w + x < w * w = place_in w w (m / w) x (row_below w m l) y in
          ap (field_residue q listed) (at_slice powers (n * (w * w)) (w * w) (m / w * w + x) place)
          ∙ rw (column_at w (m / w) x y, row_of w (m / w) x y) at (front.each n (m / w * w + x) (omega arith) place)

  -- ---- equations
  module _ (powers equations : List ℕ) (lists : ListsPowers q listed w a (w + 1) powers)
      (t : IsTabulated (w * w * (w + 1)) (λ m. get_or powers ((w - m % (w + 1)) * (w * w) + m / (w + 1)) 0) equations) where
    pub equation_is : (k x : ℕ) → k < w * w → x < w + 1 → power_equations (field q listed) w (matrix_of q listed w a) k x ≡ matrix_of q listed (w + 1) equations k x
    equation_is k x h small =
        sym (ap (field_residue q listed) (table_at (w * w) (w + 1) (λ k x. get_or powers ((w - x) * (w * w) + k) 0) equations t k x h small)
        ∙ lists.each (w - x) k (omega arith) h)

    pub equations_below : AreBelow q equations
    equations_below = tabulated_below q _ _ equations t (λ m less.
        let row : m / (w + 1) < w * w = (div-lt_iff_lt-mul (omega arith)).1 less in
        let place = place_in (w * w) (w + 1) (w - m % (w + 1)) (m / (w + 1)) (omega arith) row in
        lists.below _ (omega (arith, place, lists.count)))

  -- ---- the last row
  pub found_minimal : (rows : List ℕ) (f : ℕ) (poly : List ℕ) → length rows ≡ (w + 1) * (w + 1) → AreBelow q rows
      → IsSolved (field q listed) (w * w) (w + 1) (power_equations (field q listed) w (matrix_of q listed w a)) (matrix_of q listed (w + 1) rows)
      → IsLastNonzero (w + 1) (λ g. get_or rows (g * (w + 1) + g) 0) f
      → IsTabulated (w + 1 - f) (λ k. get_or rows (f * (w + 1) + (w + 1 - 1 - k)) 0) poly
      → IsMinimal (field q listed) w (matrix_of q listed w a) (length poly) (column_of q listed poly)
  found_minimal rows f poly size below solved last t =
      last_is_minimal (field q listed) w (matrix_of q listed w a) (matrix_of q listed (w + 1) rows) solved f (length poly) (column_of q listed poly) last.below
      (free (cases_eq (get_or rows (f * (w + 1) + f) 0) 0)) (λ g h k. gone g h (last.later g k h)) t.count
      (λ k h. ap (field_residue q listed)
      (t.each k (let c = t.count in omega arith) ∙ (let top : w + 1 - 1 ≡ w = omega arith in ap (λ x. get_or rows (f * (w + 1) + (x - k)) 0) top)))
    where
      tells : IsTold (field q listed) (w + 1) (matrix_of q listed (w + 1) rows) (begins_at rows (w + 1))
      tells = told q listed (w * w) (w + 1) (power_equations (field q listed) w (matrix_of q listed w a)) rows size below solved

      gone : (g : ℕ) → g < w + 1 → get_or rows (g * (w + 1) + g) 0 ≡ 0 → IsGone (field q listed) (w + 1) (matrix_of q listed (w + 1) rows) g
      gone g h e = tells.gone g h (ap not (eq-eqb (get_or rows (g * (w + 1) + g) 0) 0 e))

      free : (get_or rows (f * (w + 1) + f) 0 ≡ 0) ⊎ (get_or rows (f * (w + 1) + f) 0 ≡ 0 → ⊥) → IsFree (field q listed) (w + 1) (matrix_of q listed (w + 1) rows) f
      free (inr some) = tells.there f last.below (ap not (ne_eqb (get_or rows (f * (w + 1) + f) 0) 0 some))
      free (inl nothing) =
          absurd (some_row (field q listed) w (matrix_of q listed w a) (matrix_of q listed (w + 1) rows) solved (residue_field q listed)
          (λ g h. gone g h (elim (cases_eq g f) [
            | inl same ↦ rw same nothing
            | inr apart ↦ last.later g (let first = last.nonzero nothing in omega arith) h
          ])))

pub poly_below : (q v : ℕ) (rows poly : List ℕ) (f : ℕ) → length rows ≡ v * v → AreBelow q rows → f < v → IsTabulated (v - f) (λ k. get_or rows (f * v + (v - 1 - k)) 0) poly → AreBelow q poly
poly_below q v rows poly f size below h t =
    tabulated_below q (v - f) _ poly t (λ k less. below _ (let place = place_in v v f (v - 1 - k) h (omega arith) in omega arith))
