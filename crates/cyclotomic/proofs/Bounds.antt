-- Reduced powers of x have size 1, and a product of two values fits where the product of their sizes is below 2^108.
use Rattle.cyclotomic.proofs.Names.{leb-true, ◌≡◌, ℕ, zero, suc, ◌*◌, ◌^◌, ◌%◌, ◌≤◌, ◌<◌, List, [], ◌∷◌, ◌++◌, length, get_or, Bool, true, false, refl, sym, ap, ◌∙◌, subst, arith, sum_by, IsPermutation, mod-lt, mul-le-mul, mul-le-mul_right, ℤ, nat_lt, nat_le, not, list_all, ltb-true, ltb-false, le-leb, le-ltb, sum_list, sum_list_nil, sum_list_cons, degree, cyclotomic, conductors, is_conductor, phi_of, Value, value_sum, value_nought, value_one, value_product, value_root, size_of, value_size, value_fits, product_fits, sizes_overflow, greatest_magnitude, iterate, remainder_ring, value_shift}
use Rattle.std.proofs.lemmas.Bool.Decides.{nat_tests}
use Rattle.std.proofs.lemmas.List.Sums.{sum_by-append, sum_by-cons}
use Rattle.std.proofs.lemmas.List.Sorted.{sum_by-IsPermutation}
use Rattle.cyclotomic.proofs.Images.{root_steps, root-mod}
use Rattle.cyclotomic.proofs.Tests.{and_left, and_right, at_each_conductor}
use Rattle.cyclotomic.proofs.Rows.{power_rows}
use Rattle.cyclotomic.proofs.RowLaws.{power_row-at}
use Rattle.cyclotomic.proofs.Checks.{listed, is_ternary, listed_ternary, conductor_positive}
use Rattle.cyclotomic.proofs.Fields.{from_listed, cyclotomic_degree, cyclotomic_period}
use Rattle.cyclotomic.proofs.Sizes.{size-plus, size-zeros, total_of, total-size, size-product}

-- ---- reduced powers of x
-- what passes at every element passes at a place of the list
all_at : {X : Type 0} (test : X → Bool) (xs : List X) (d : X) → list_all test xs ≡ true → test d ≡ true → (i : ℕ) → test (get_or xs i d) ≡ true
all_at test [] d all default i = default
all_at test (x ∷ xs) d all default zero = and_left (test x) (list_all test xs) all
all_at test (x ∷ xs) d all default (suc i) = all_at test xs d (and_right (test x) (list_all test xs) all) default i

-- ---- phi * phi is at most 2^11
all_squares : list_all (λ (entry : ℕ × ℕ). nat_lt (phi_of entry.0 * phi_of entry.0) 2048) conductors ≡ true
unfolding conductors phi_of
all_squares = refl

product_bound : (n a b s t p : ℕ) → s ≤ n * a → t ≤ n * b → p ≤ s * t → n * n < 2048 → p ≤ 2048 * (a * b)
product_bound n a b s t p hs ht hp hn =
    let both : s * t ≤ (n * a) * (n * b) = mul-le-mul hs ht in
    let squares : (n * n) * (a * b) ≤ 2048 * (a * b) = mul-le-mul_right (a * b) (omega arith) in
    omega (arith, both, squares)

module _ (k : ℕ) (entry : is_conductor k ≡ true) where
  small_row : (i : ℕ) → i < k → value_size (value_root (cyclotomic k) i) ≤ 1
  unfolding size_of
  small_row i h =
      from_listed k entry (λ m. value_size (value_root m i) ≤ 1)
      (subst (λ p. size_of p ≤ 1) (power_row-at (listed k) k i h)
      (leb-true (size_of (get_or (power_rows (listed k) k) i [])) 1 (all_at is_ternary (power_rows (listed k) k) [] (listed_ternary k entry) refl i)))

  -- each reduced power of x has coefficients -1, 0 and 1
  pub root_size : (v : ℕ) → value_size (value_root (cyclotomic k) v) ≤ 1
  root_size v =
      let positive : 0 < k = conductor_positive k entry in
      subst (λ u. value_size u ≤ 1) (sym (root-mod (cyclotomic k) k (cyclotomic_period k entry) positive v)) (small_row (v % k) (mod-lt v positive))

  pub step_size : (i : ℕ) → value_size (iterate (value_shift (cyclotomic k)) i (value_one (cyclotomic k))) ≤ 1
  step_size i = subst (λ u. value_size u ≤ 1) (root_steps (cyclotomic k) i) (root_size i)

  pub phi_square : phi_of k * phi_of k < 2048
  phi_square = ltb-true (phi_of k * phi_of k) 2048 (at_each_conductor (λ j. nat_lt (phi_of j * phi_of j) 2048) all_squares k entry)

  -- the size of a product is below 2048 times the product of the sizes
  pub product_size : (u v : Value (degree (cyclotomic k))) → value_size (value_product (cyclotomic k) u v) ≤ 2048 * (value_size u * value_size v)
  product_size u v =
      let n = phi_of k in
      let count_u : length u.coefficients ≡ n = u.count ∙ cyclotomic_degree k entry in
      let count_v : length v.coefficients ≡ n = v.count ∙ cyclotomic_degree k entry in
      product_bound n (value_size u) (value_size v) (total_of u.coefficients) (total_of v.coefficients)
      (value_size (value_product (cyclotomic k) u v))
      (subst (λ j. total_of u.coefficients ≤ j * value_size u) count_u (total-size u.coefficients))
      (subst (λ j. total_of v.coefficients ≤ j * value_size v) count_v (total-size v.coefficients))
      (size-product (cyclotomic k) step_size u v)
      phi_square

  -- a product of two values that fit together is a value that fits
  pub product_that_fits : (u v : Value (degree (cyclotomic k))) → product_fits u v ≡ true → value_fits (value_product (cyclotomic k) u v) ≡ true
  unfolding product_fits value_fits
  product_that_fits u v e =
      let below : value_size u * value_size v < 2 ^ 108 = ltb-true (value_size u * value_size v) (2 ^ 108) e in
      le-leb (value_size (value_product (cyclotomic k) u v)) greatest_magnitude (omega (arith, below, product_size u v))

-- ---- sizes together
pub sizes_overflow-front : {n : ℕ} (xs ys : List (Value n)) → sizes_overflow (xs ++ ys) ≡ false → sizes_overflow xs ≡ false
unfolding sizes_overflow
sizes_overflow-front {n} xs ys e =
    le-ltb greatest_magnitude (sum_by value_size xs)
    (omega (arith, ltb-false greatest_magnitude (sum_by value_size (xs ++ ys)) e, sum_by-append value_size xs ys))

pub sizes_overflow-order : {n : ℕ} (xs ys : List (Value n)) → IsPermutation xs ys → sizes_overflow xs ≡ false → sizes_overflow ys ≡ false
unfolding sizes_overflow
sizes_overflow-order {n} xs ys same e =
    ap (nat_lt greatest_magnitude) (sum_by-IsPermutation value_size xs ys same) ∙ e

pub size-sum_list : (m : List ℤ) (xs : List (Value (degree m))) → value_size (sum_list (remainder_ring m) xs) ≤ sum_by (λ u. value_size u) xs
unfolding value_sum value_nought
size-sum_list m [] = omega (arith, ap (λ u. value_size u) (sum_list_nil (remainder_ring m)), size-zeros (degree m))
size-sum_list m (x ∷ xs) =
    let rest = sum_list (remainder_ring m) xs in
    omega
    (arith, ap (λ u. value_size u) (sum_list_cons (remainder_ring m) x xs), size-plus x.coefficients rest.coefficients, size-sum_list m xs, sum_by-cons value_size x xs)

-- the sum of terms whose sizes don't overflow fits
pub sizes_overflow-sum_fits : (m : List ℤ) (xs : List (Value (degree m))) → sizes_overflow xs ≡ false → value_fits (sum_list (remainder_ring m) xs) ≡ true
unfolding sizes_overflow value_fits
sizes_overflow-sum_fits m xs e =
    le-leb (value_size (sum_list (remainder_ring m) xs)) greatest_magnitude
    (omega (arith, ltb-false greatest_magnitude (sum_by value_size xs) e, size-sum_list m xs))

-- one term alone overflows exactly where it doesn't fit
pub sizes_overflow-one : {n : ℕ} (u : Value n) → sizes_overflow (u ∷ []) ≡ not (value_fits u)
unfolding sizes_overflow value_fits
sizes_overflow-one {n} u =
    let same : sum_by value_size (u ∷ []) ≡ value_size u = omega (arith, sum_by-cons value_size u []) in
    ap (nat_lt greatest_magnitude) same ∙ not_above (value_size u) greatest_magnitude
  where
    not_above : (a b : ℕ) → nat_lt b a ≡ not (nat_le a b)
    not_above a b = grind (arith, nat_tests)

-- what the sizes of terms together say, for `fit_laws`
pub ruleset size_rules = (sizes_overflow-front, sizes_overflow-sum_fits, sizes_overflow-one)
