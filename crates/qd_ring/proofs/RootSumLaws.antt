-- Sums of roots of unity: what is made of them, and how great they are.
use Rattle.qd_ring.proofs.Names.{◌≡◌, ℕ, zero, suc, ◌+◌, ◌-◌, ◌*◌, ◌^◌, ◌<◌, ◌≤◌, true, List, [], ◌∷◌, ◌++◌, length, map, refl, sym, ap, ◌∙◌, arith, length-append, sum_by, add-one, zero-add, pos, range_with_len, mul-le-mul, map-append, length-map, sum_by-map-range_with_len_more, le-leb, lt-ltb, ap₂, sum_below, multiple, nought_mul, add_mul, mul_nought, mul_add, sum_list_nil, sum_list_cons, sum_list_append, sum_list_single, sum_zero, sum_suc, multiple_zero, multiple_suc, nought_map, is_conductor, cyclotomic, plus, x_to, degree, value_of-plus, value_sum, value_nought, value_product, CyclotomicValue, cyclotomic_ring, cyclotomic_value, root, conjugate, galois_image, value_size, value_fits, product_fits, greatest_magnitude, root-sum, image-sum, galois_root, conjugation_prime, size-plus, size-zeros, root_size, value_of-zeros}
use Rattle.std.specs.Int.{IsGcd}
use Rattle.std.proofs.lemmas.List.{map-id}
use Rattle.qd_ring.specs.RootSums.{sum_of_roots, IsSumOfRoots}

-- one more number in a sum of numbers
counts_more : (n : ℕ) (count : ℕ → ℕ) → sum_by count (range_with_len 0 n) + count n ≡ sum_by count (range_with_len 0 (suc n))
counts_more n count = sym (rw (map-id, map-id, add-one) at (sum_by-map-range_with_len_more count (λ i. i) 0 n n (zero-add n)))

module _ (k : ℕ) where
  no_roots : sum_of_roots k [] ≡ value_nought
  unfolding sum_of_roots
  no_roots = sum_list_nil (cyclotomic_ring k)

  more_roots : (e : ℕ) (es : List ℕ) → sum_of_roots k (e ∷ es) ≡ value_sum (root k e) (sum_of_roots k es)
  unfolding sum_of_roots
  more_roots e es = sum_list_cons (cyclotomic_ring k) (root k e) (map (λ v. root k v) es)

  roots-append : (es fs : List ℕ) → sum_of_roots k (es ++ fs) ≡ value_sum (sum_of_roots k es) (sum_of_roots k fs)
  unfolding sum_of_roots
  roots-append es fs = simp (map-append, sum_list_append)

  -- a root times a sum of roots
  roots-turned : (e : ℕ) (es : List ℕ) → value_product (cyclotomic k) (root k e) (sum_of_roots k es) ≡ sum_of_roots k (map (λ v. e + v) es)
  roots-turned e [] = simp (no_roots, mul_nought (cyclotomic_ring k))
  roots-turned e (v ∷ es) =
      simp (more_roots, mul_add (cyclotomic_ring k), root-sum (cyclotomic k), roots-turned e es)

  -- the exponents of a product
  abbrev pub exponent_sums : List ℕ → List ℕ → List ℕ
  exponent_sums [] fs = []
  exponent_sums (e ∷ es) fs = map (λ v. e + v) fs ++ exponent_sums es fs

  roots-product : (es fs : List ℕ) → value_product (cyclotomic k) (sum_of_roots k es) (sum_of_roots k fs) ≡ sum_of_roots k (exponent_sums es fs)
  roots-product [] fs = simp (no_roots, nought_mul (cyclotomic_ring k))
  roots-product (e ∷ es) fs =
      simp (more_roots, roots-append, add_mul (cyclotomic_ring k), roots-turned e fs, roots-product es fs)

  length-exponent_sums : (es fs : List ℕ) → length (exponent_sums es fs) ≡ length es * length fs
  length-exponent_sums [] fs = omega arith
  length-exponent_sums (e ∷ es) fs =
      omega (arith, length-append (map (λ v. e + v) fs) (exponent_sums es fs), length-map fs (λ v. e + v), length-exponent_sums es fs)

  pub no_root : IsSumOfRoots k 0 value_nought
  no_root = record { exponents = []; count = refl; adds = sym no_roots }

  pub one_root : (e : ℕ) → IsSumOfRoots k 1 (root k e)
  unfolding sum_of_roots
  one_root e = record { exponents = e ∷ []; count = refl; adds = sym (sum_list_single (cyclotomic_ring k) (root k e)) }

  module _ (r s : ℕ) (u v : CyclotomicValue k) (of_u : IsSumOfRoots k r u) (of_v : IsSumOfRoots k s v) where
    pub roots_together : IsSumOfRoots k (r + s) (value_sum u v)
    roots_together = record {
      exponents = of_u.exponents ++ of_v.exponents;
      count = omega (arith, length-append of_u.exponents of_v.exponents, of_u.count, of_v.count);
      adds = ap₂ value_sum of_u.adds of_v.adds ∙ sym (roots-append of_u.exponents of_v.exponents);
    }

    pub roots_multiplied : IsSumOfRoots k (r * s) (value_product (cyclotomic k) u v)
    roots_multiplied = record {
      exponents = exponent_sums of_u.exponents of_v.exponents;
      count = length-exponent_sums of_u.exponents of_v.exponents ∙ ap₂ (λ a b. a * b) of_u.count of_v.count;
      adds = ap₂ (value_product (cyclotomic k)) of_u.adds of_v.adds ∙ roots-product of_u.exponents of_v.exponents;
    }

  -- the same value, and as many roots
  pub roots_same : (r s : ℕ) (u v : CyclotomicValue k) → r ≡ s → u ≡ v → IsSumOfRoots k r u → IsSumOfRoots k s v
  roots_same r s u v count same of_u = record {
    exponents = of_u.exponents;
    count = of_u.count ∙ count;
    adds = sym same ∙ of_u.adds;
  }

  pub roots_turned : (e r : ℕ) (u : CyclotomicValue k) → IsSumOfRoots k r u → IsSumOfRoots k r (value_product (cyclotomic k) (root k e) u)
  roots_turned e r u of_u = record {
    exponents = map (λ v. e + v) of_u.exponents;
    count = length-map of_u.exponents (λ v. e + v) ∙ of_u.count;
    adds = ap (value_product (cyclotomic k) (root k e)) of_u.adds ∙ roots-turned e of_u.exponents;
  }

  pub roots_copied : (n r : ℕ) (u : CyclotomicValue k) → IsSumOfRoots k r u → IsSumOfRoots k (n * r) (multiple (cyclotomic_ring k) n u)
  roots_copied zero r u of_u = roots_same 0 (0 * r) value_nought _ (omega arith) (sym (multiple_zero (cyclotomic_ring k) u)) no_root
  roots_copied (suc n) r u of_u =
      roots_same (n * r + r) (suc n * r) _ _ (omega arith) (sym (multiple_suc (cyclotomic_ring k) n u)) (roots_together _ _ _ u (roots_copied n r u of_u) of_u)

  pub roots_below : (n : ℕ) (count : ℕ → ℕ) (value : ℕ → CyclotomicValue k) → ((i : ℕ) → i < n → IsSumOfRoots k (count i) (value i))
      → IsSumOfRoots k (sum_by count (range_with_len 0 n)) (sum_below (cyclotomic_ring k) n value)
  roots_below zero count value of_each = roots_same 0 _ value_nought _ refl (sym (sum_zero (cyclotomic_ring k) value)) no_root
  roots_below (suc n) count value of_each =
      roots_same _ _ _ _ (counts_more n count) (sym (sum_suc (cyclotomic_ring k) n value))
      (roots_together _ _ _ (value n) (roots_below n count value (λ i h. of_each i (omega arith))) (of_each n (omega arith)))

-- a whole number is that many times the root 1
whole_more : (k n : ℕ) → value_sum (cyclotomic_value k (pos n ∷ [])) (root k 0) ≡ cyclotomic_value k (pos (suc n) ∷ [])
unfolding plus x_to
whole_more k n =
    sym (value_of-plus (cyclotomic k) (pos n ∷ []) (x_to 0)) ∙ ap (λ c. cyclotomic_value k (pos c ∷ [])) (add-one n)

pub roots_whole : (k n : ℕ) → IsSumOfRoots k n (cyclotomic_value k (pos n ∷ []))
roots_whole k zero = roots_same k 0 0 value_nought _ refl (sym (value_of-zeros (cyclotomic k) 1)) (no_root k)
roots_whole k (suc n) = roots_same k (n + 1) (suc n) _ _ (omega arith) (whole_more k n) (roots_together k n 1 _ _ (roots_whole k n) (one_root k 0))

module _ (k : ℕ) (entry : is_conductor k ≡ true) where
  roots-image : (t : ℕ) → IsGcd t k 1 → (es : List ℕ) → galois_image k t (sum_of_roots k es) ≡ sum_of_roots k (map (λ e. t * e) es)
  roots-image t prime [] = simp no_roots (nought_map (cyclotomic_ring k) (cyclotomic_ring k) (galois_image k t) (image-sum (cyclotomic k) t))
  roots-image t prime (e ∷ es) = simp (more_roots, image-sum, galois_root k entry t prime, roots-image t prime es)

  pub roots_imaged : (t : ℕ) → IsGcd t k 1 → (r : ℕ) (u : CyclotomicValue k) → IsSumOfRoots k r u → IsSumOfRoots k r (galois_image k t u)
  roots_imaged t prime r u of_u = record {
    exponents = map (λ e. t * e) of_u.exponents;
    count = length-map of_u.exponents (λ e. t * e) ∙ of_u.count;
    adds = ap (galois_image k t) of_u.adds ∙ roots-image t prime of_u.exponents;
  }

  pub roots_conjugated : (r : ℕ) (u : CyclotomicValue k) → IsSumOfRoots k r u → IsSumOfRoots k r (conjugate k u)
  roots_conjugated = roots_imaged (k - 1) (conjugation_prime k entry)

  size-roots : (es : List ℕ) → value_size (sum_of_roots k es) ≤ length es
  unfolding value_sum value_nought
  size-roots [] = omega (arith, ap (λ u. value_size u) (no_roots k), size-zeros (degree (cyclotomic k)))
  size-roots (e ∷ es) =
      simp more_roots (omega (arith, size-plus (root k e).coefficients (sum_of_roots k es).coefficients, root_size k entry e, size-roots es))

  pub roots_size : (r : ℕ) (u : CyclotomicValue k) → IsSumOfRoots k r u → value_size u ≤ r
  roots_size r u of_u = omega (arith, ap (λ v. value_size v) of_u.adds, size-roots of_u.exponents, of_u.count)

  pub roots_fit : (r : ℕ) (u : CyclotomicValue k) → IsSumOfRoots k r u → r ≤ greatest_magnitude → value_fits u ≡ true
  unfolding value_fits
  roots_fit r u of_u small = le-leb (value_size u) greatest_magnitude (omega (arith, roots_size r u of_u, small))

  pub roots_fit_together : (r s : ℕ) (u v : CyclotomicValue k) → IsSumOfRoots k r u → IsSumOfRoots k s v → r * s < 2 ^ 108 → product_fits u v ≡ true
  unfolding product_fits
  roots_fit_together r s u v of_u of_v small =
      lt-ltb (value_size u * value_size v) (2 ^ 108) (omega (arith, mul-le-mul (roots_size r u of_u) (roots_size s v of_v), small))
