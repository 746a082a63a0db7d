-- Sizes of arrays and of the values that they stand for, and the special images.
use Rattle.qd_ring.proofs.Names.{cyclotomic_value, root_size, array_length, size-padded, ◌≡◌, ℕ, ◌-◌, ◌*◌, ◌^◌, ◌%◌, ◌≤◌, ◌<◌, true, false, List, length, sym, ap, ◌∙◌, subst, arith, nat_le, ℤ, leb-true, le-leb, lt-leb, lt-ltb, le-ltb, ap₂, cyclotomic, is_conductor, size_of, value_size, value_fits, product_fits, greatest_magnitude, Value, value_product, CyclotomicValue, galois_image, root, remainder_ring, one_mul, root-zero, image-one_power, galois_modulo, total_of, total-size, array_of, is_array, is_small}
use Rattle.qd_ring.specs.ArrayLaws.{value_fits-small}

pub small_means : (xs : List ℤ) → is_small xs ≡ true → size_of xs ≤ greatest_magnitude
unfolding is_small
small_means xs e = leb-true (size_of xs) greatest_magnitude e

pub size-array_of : {n : ℕ} (u : Value n) → size_of (array_of u) ≡ value_size u
unfolding array_of
size-array_of u = size-padded u.coefficients (42 - length u.coefficients)

pub small-array_of : {n : ℕ} (u : Value n) → is_small (array_of u) ≡ value_fits u
unfolding is_small value_fits
small-array_of u = ap (λ s. nat_le s greatest_magnitude) (size-array_of u)

module _ (k : ℕ) (entry : is_conductor k ≡ true) where
  pub total_bound : (xs : List ℤ) → is_array k xs ≡ true → total_of xs ≤ 42 * size_of xs
  total_bound xs array = subst (λ n. total_of xs ≤ n * size_of xs) (array_length k entry xs array) (total-size xs)

  pub small_total : (xs : List ℤ) → is_array k xs ≡ true → is_small xs ≡ true → total_of xs < 2 ^ 126
  small_total xs array small = omega (arith, total_bound xs array, small_means xs small)

  -- the images that the calls use
  pub image_alone : (t : ℕ) (u : CyclotomicValue k) → value_product (cyclotomic k) (root k 0) (galois_image k t u) ≡ galois_image k t u
  image_alone t u =
      ap (λ r. value_product (cyclotomic k) r (galois_image k t u)) (root-zero (cyclotomic k))
      ∙ one_mul (remainder_ring (cyclotomic k)) (galois_image k t u)

  pub image_modulo : (t : ℕ) (u : CyclotomicValue k) → value_product (cyclotomic k) (root k 0) (galois_image k (t % k) u) ≡ galois_image k t u
  image_modulo t u = image_alone (t % k) u ∙ sym (galois_modulo k entry t u)

  pub times_alone : (e : ℕ) (u : CyclotomicValue k) → value_product (cyclotomic k) (root k e) (galois_image k 1 u) ≡ value_product (cyclotomic k) (root k e) u
  times_alone e u = ap (value_product (cyclotomic k) (root k e)) (image-one_power (cyclotomic k) u)

pub is_small_yes : (xs : List ℤ) (s : ℕ) → s ≡ size_of xs → s ≤ greatest_magnitude → is_small xs ≡ true
unfolding is_small
is_small_yes xs s e h = le-leb (size_of xs) greatest_magnitude (omega (arith, e, h))

pub is_small_no : (xs : List ℤ) (s : ℕ) → s ≡ size_of xs → greatest_magnitude < s → is_small xs ≡ false
unfolding is_small
is_small_no xs s e h = lt-leb (size_of xs) greatest_magnitude (omega (arith, e, h))

module _ (k : ℕ) (entry : is_conductor k ≡ true) where
  -- the array of a value that fits is small
  pub small_value : (xs : List ℤ) → is_array k xs ≡ true → (u : CyclotomicValue k) → cyclotomic_value k xs ≡ u → value_fits u ≡ true → is_small xs ≡ true
  small_value xs array u e fits = sym (value_fits-small k entry xs array) ∙ ap value_fits e ∙ fits

  pub root_fits : (e : ℕ) → value_fits (root k e) ≡ true
  unfolding value_fits
  root_fits e = le-leb (value_size (root k e)) greatest_magnitude (omega (arith, root_size k entry e))

-- ---- the test of a product
module _ (k : ℕ) (u v : CyclotomicValue k) (s t : ℕ) (s_is : s ≡ value_size u) (t_is : t ≡ value_size v) where
  pub fits_by_sizes : s * t < 2 ^ 108 → product_fits u v ≡ true
  unfolding product_fits
  fits_by_sizes h = lt-ltb (value_size u * value_size v) (2 ^ 108) (subst (λ z. z < 2 ^ 108) (ap₂ (λ x y. x * y) s_is t_is) h)

  pub unfit_by_sizes : 2 ^ 108 ≤ s * t → product_fits u v ≡ false
  unfolding product_fits
  unfit_by_sizes h = le-ltb (value_size u * value_size v) (2 ^ 108) (subst (λ z. 2 ^ 108 ≤ z) (ap₂ (λ x y. x * y) s_is t_is) h)
