-- Products term by term, arrays of values, and what a zero buffer stands for.
use Rattle.qd_ring.proofs.Names.{value_of-padded, value_of-zeros, zeros_noughts, ◌≡◌, ℕ, zero, suc, ◌-◌, true, List, ◌++◌, length, take, drop, refl, sym, ap, ◌∙◌, arith, length-append, eq-eqb, ◌&&◌, drop-append_seam, take-replicate, ℤ, pos, list_all, ap₂, zeros, at_power, degree, remainder, cyclotomic, is_conductor, phi_of, Value, value_sum, value_multiple, value_nought, value_of, value_product, value_image, CyclotomicValue, cyclotomic_value, galois_image, length-zeros, value_of-itself, product_comm, sum_nought, sum_comm, cyclotomic_degree, total_of, array_of, is_array, is_nought, conductor_bounds}
use Rattle.qd_ring.specs.ArrayLaws.{coefficients_of}
use Rattle.qd_ring.proofs.SpreadLaws.{product-multiple}

-- ---- an empty buffer
pub nought_sum : (m : List ℤ) (u : Value (degree m)) → value_sum value_nought u ≡ u
nought_sum m u = sum_comm m value_nought u ∙ sum_nought m u

pub total-zeros : (j : ℕ) → total_of (zeros j) ≡ 0
unfolding total_of
total-zeros zero = refl
total-zeros (suc j) = omega (arith, total-zeros j)

-- ---- a product, term by term
pub multiple-product : (m : List ℤ) (c : ℤ) (u v : Value (degree m)) → value_product m (value_multiple c u) v ≡ value_multiple c (value_product m u v)
multiple-product m c u v =
    product_comm m (value_multiple c u) v ∙ product-multiple m c v u ∙ ap (value_multiple c) (product_comm m v u)

-- ---- arrays
module _ (k : ℕ) (entry : is_conductor k ≡ true) where
  pub length-value : (u : CyclotomicValue k) → length u.coefficients ≡ phi_of k
  length-value u = u.count ∙ cyclotomic_degree k entry

  pub is_array-of : (u : CyclotomicValue k) → is_array k (array_of u) ≡ true
  unfolding is_array array_of
  is_array-of u =
      let bounds = conductor_bounds k entry in
      let n = length u.coefficients in
      let long : length (u.coefficients ++ zeros (42 - n)) ≡ 42 =
      omega (arith, length-append u.coefficients (zeros (42 - n)), length-zeros (42 - n), length-value u, bounds.2) in
      let rest : drop (phi_of k) (u.coefficients ++ zeros (42 - n)) ≡ zeros (42 - n) =
      ap (λ j. drop j (u.coefficients ++ zeros (42 - n))) (sym (length-value u)) ∙ drop-append_seam u.coefficients (zeros (42 - n)) in
      ap₂ (λ x y. x && y) (eq-eqb (length (u.coefficients ++ zeros (42 - n))) 42 long)
      (ap (list_all is_nought) rest ∙ zeros_noughts (42 - n))

  pub value-array_of : (u : CyclotomicValue k) → cyclotomic_value k (array_of u) ≡ u
  unfolding array_of
  value-array_of u =
      value_of-padded (cyclotomic k) u.coefficients (42 - length u.coefficients) ∙ value_of-itself (cyclotomic k) u

  -- the remainder with zeros is the array of the value
  pub array_of_remainder : (b p : List ℤ) → p ≡ remainder (cyclotomic k) b → p ++ zeros (42 - phi_of k) ≡ array_of (cyclotomic_value k b)
  unfolding array_of value_of
  array_of_remainder b p e =
      ap₂ (λ x j. x ++ zeros (42 - j)) e (sym (length-value (cyclotomic_value k b)))

-- the image of the first places is the image of the value
pub image-front : (k : ℕ) (entry : is_conductor k ≡ true) (t : ℕ) (xs : List ℤ) → is_array k xs ≡ true → cyclotomic_value k (at_power t (take (phi_of k) xs)) ≡ galois_image k t (cyclotomic_value k xs)
unfolding value_image
image-front k entry t xs array = ap (λ p. value_of (cyclotomic k) (at_power t p)) (sym (coefficients_of k entry xs array))

pub empty_front : (k : ℕ) → is_conductor k ≡ true → take k (zeros 120) ≡ zeros k
empty_front k entry = take-replicate k 120 (pos 0) (conductor_bounds k entry).0

pub empty_length : (k : ℕ) → is_conductor k ≡ true → k ≡ length (take k (zeros 120))
empty_length k entry = sym (ap length (empty_front k entry) ∙ length-zeros k)

-- an empty buffer has k places, and their magnitudes are 0
pub empty_size : (k : ℕ) (xs : List ℤ) → xs ≡ zeros k → length xs ≡ k
empty_size k xs e = ap length e ∙ length-zeros k

-- what is added to it is its value
pub added_to_empty : (k : ℕ) (xs : List ℤ) → xs ≡ zeros k → (u : CyclotomicValue k) → value_sum (cyclotomic_value k xs) u ≡ u
added_to_empty k xs e u =
    ap (λ z. value_sum z u) (ap (cyclotomic_value k) e ∙ value_of-zeros (cyclotomic k) k) ∙ nought_sum (cyclotomic k) u

pub empty_total : (k : ℕ) (xs : List ℤ) → xs ≡ zeros k → total_of xs ≡ 0
empty_total k xs e = ap total_of e ∙ total-zeros k
