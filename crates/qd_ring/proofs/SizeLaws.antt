-- How great images, root multiples, products and listed sums are.
use Rattle.qd_ring.proofs.Names.{◌≡◌, ℕ, zero, suc, ◌+◌, ◌*◌, ◌<◌, ◌≤◌, Bool, true, false, List, [], ◌∷◌, ◌++◌, map, refl, ap, ◌∙◌, subst, arith, not, ◌||◌, sum_by, ℤ, nat_abs, range_with_len, mul-le-mul, le-ltb, sum_by-cons, ap₂, all_below, zeros, plus, at_power, is_conductor, phi_of, cyclotomic, value_of, value_sum, value_multiple, value_product, value_image, CyclotomicValue, cyclotomic_ring, root, galois_image, value_size, greatest_magnitude, sizes_overflow, cyclotomic_degree, product-root, total_of, total-size, magnitude-sum, size-plus, size-scaled, size-steps, size-product, step_size, sum_overflows, cyclotomic_fit}
use Rattle.qd_ring.proofs.ReduceLaws.{remainder_size}

pub size_sum : (k : ℕ) (u v : CyclotomicValue k) → value_size (value_sum u v) ≤ value_size u + value_size v
unfolding value_sum
size_sum k u v = size-plus u.coefficients v.coefficients

pub size_multiple : (k : ℕ) (c : ℤ) (u : CyclotomicValue k) → value_size (value_multiple c u) ≤ nat_abs c * value_size u
unfolding value_multiple
size_multiple k c u = size-scaled c u.coefficients

-- ---- totals of magnitudes
total-plus : (p q : List ℤ) → total_of (plus p q) ≤ total_of p + total_of q
unfolding total_of plus
total-plus [] q = omega arith
total-plus (a ∷ p) [] = omega arith
total-plus (a ∷ p) (b ∷ q) = omega (arith, magnitude-sum a b, total-plus p q)

total-shifted : (j : ℕ) (p : List ℤ) → total_of (zeros j ++ p) ≡ total_of p
unfolding total_of
total-shifted zero p = refl
total-shifted (suc j) p = omega (arith, total-shifted j p)

total-at_power : (t : ℕ) (p : List ℤ) → total_of (at_power t p) ≤ total_of p
unfolding total_of at_power
total-at_power t [] = omega arith
total-at_power t (a ∷ p) =
    omega (arith, total-plus (a ∷ []) (zeros t ++ at_power t p), total-shifted t (at_power t p), total-at_power t p)

module _ (k : ℕ) (entry : is_conductor k ≡ true) where
  pub value_total : (u : CyclotomicValue k) → total_of u.coefficients ≤ phi_of k * value_size u
  value_total u =
      subst (λ n. total_of u.coefficients ≤ n * value_size u) (u.count ∙ cyclotomic_degree k entry) (total-size u.coefficients)

  pub size_image : (t : ℕ) (u : CyclotomicValue k) → value_size (galois_image k t u) ≤ phi_of k * value_size u
  unfolding value_image value_of
  size_image t u =
      omega
      (arith, remainder_size k entry (at_power t u.coefficients), total-at_power t u.coefficients, value_total u)

  pub size_turned : (e : ℕ) (u : CyclotomicValue k) → value_size (value_product (cyclotomic k) (root k e) u) ≤ phi_of k * value_size u
  size_turned e u =
      omega
      (arith, ap (λ v. value_size v) (product-root (cyclotomic k) e u), size-steps (cyclotomic k) (step_size k entry) u e, value_total u)

  pub size_product : (u v : CyclotomicValue k) → value_size (value_product (cyclotomic k) u v) ≤ (phi_of k * value_size u) * (phi_of k * value_size v)
  size_product u v =
      omega
      (arith, size-product (cyclotomic k) (step_size k entry) u v, mul-le-mul (value_total u) (value_total v))

-- ---- listed sums
sizes_at_most : {A : Type 0} (size : A → ℕ) (value : ℕ → A) (a n most : ℕ) → ((i : ℕ) → i < n → size (value (a + i)) ≤ most) → sum_by size (map value (range_with_len a n)) ≤ n * most
sizes_at_most size value a zero most each = omega arith
sizes_at_most size value a (suc n) most each =
    let first : size (value a) ≤ most = subst (λ j. size (value j) ≤ most) (omega arith) (each 0 (omega arith)) in
    let rest = sizes_at_most size value (a + 1) n most (λ i h. subst (λ j. size (value j) ≤ most) (omega arith) (each (suc i) (omega arith))) in
    omega (arith, first, rest, sum_by-cons size (value a) (map value (range_with_len (a + 1) n)))

pub listed_fits : (k n most : ℕ) (steps_fit : ℕ → Bool) (value : ℕ → CyclotomicValue k) → all_below n steps_fit ≡ true
    → ((i : ℕ) → i < n → value_size (value i) ≤ most) → n * most ≤ greatest_magnitude → sum_overflows (cyclotomic_ring k) (cyclotomic_fit k) n steps_fit value ≡ false
unfolding sum_overflows sizes_overflow
listed_fits k n most steps_fit value fit each small =
    let size : CyclotomicValue k → ℕ = λ u. value_size u in
    let sizes = sizes_at_most size value 0 n most (λ i h. subst (λ j. size (value j) ≤ most) (omega arith) (each i h)) in
    ap₂ (λ a b. not a || b) fit (le-ltb greatest_magnitude (sum_by size (map value (range_with_len 0 n))) (omega (arith, sizes, small)))
