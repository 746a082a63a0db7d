-- Sums, differences and constants as arrays.
use Rattle.qd_ring.proofs.Names.{value_of-plus, all_noughts, array_length, array_parts, size-value, value_of-padded, value_of-zeros, zeros_noughts, ◌≡◌, ℕ, zero, suc, pred, ◌-◌, ◌%◌, ◌≤◌, ◌<◌, true, false, List, [], ◌∷◌, ◌++◌, length, take, drop, refl, sym, ap, ◌∙◌, arith, ◌&&◌, eq-eqb, length-drop, get_or, take-length, drop-replicate, ℤ, pos, negsuc, ◌+ℤ◌, ◌*ℤ◌, nat_abs, list_all, ap₂, zeros, plus, scaled, coefficient, cyclotomic, is_conductor, phi_of, size_of, value_size, value_fits, greatest_magnitude, le-leb, value_sum, value_multiple, value_negative, value_nought, value_product, CyclotomicValue, cyclotomic_ring, cyclotomic_value, root, power, root_modulo, length-zeros, length-scaled, length-plus, scaled-one, scaled-zeros, plus-zeros, size-scaled, size-zeros, size-cons, array_of, is_array, is_nought, is_small, conductor_bounds}
use Rattle.qd_ring.specs.ArrayLaws.{coefficients_of}
use Rattle.cyclotomic.proofs.Orthogonality.{power-root}
use Rattle.cyclotomic.specs.Laws.Values.{value_of-scaled}
use Rattle.qd_ring.proofs.ProductLaws.{length-value, is_array-of}
use Rattle.qd_ring.proofs.CycLaws.{small_means, is_small_yes}

plus-padded : (p q : List ℤ) (j : ℕ) → length p ≡ length q → plus (p ++ zeros j) (q ++ zeros j) ≡ plus p q ++ zeros j
unfolding plus
plus-padded [] [] j e = plus-zeros (zeros j) j (length-zeros j)
plus-padded [] (b ∷ q) j e = absurd (omega (arith, e))
plus-padded (a ∷ p) [] j e = absurd (omega (arith, e))
plus-padded (a ∷ p) (b ∷ q) j e = ap (λ z. (a +ℤ b) ∷ z) (plus-padded p q j (ap pred e))

scaled-padded : (c : ℤ) (p : List ℤ) (j : ℕ) → scaled c (p ++ zeros j) ≡ scaled c p ++ zeros j
unfolding scaled
scaled-padded c [] j = scaled-zeros c j
scaled-padded c (a ∷ p) j = ap (λ z. (c *ℤ a) ∷ z) (scaled-padded c p j)

module _ (k : ℕ) (entry : is_conductor k ≡ true) where
  -- an array is the array of its value
  pub array-of_value : (xs : List ℤ) → is_array k xs ≡ true → xs ≡ array_of (cyclotomic_value k xs)
  unfolding array_of
  array-of_value xs array =
      let u = cyclotomic_value k xs in
      let rest : length (drop (phi_of k) xs) ≡ 42 - length u.coefficients =
      omega (arith, length-drop (phi_of k) xs, array_length k entry xs array, length-value k entry u) in
      array_parts k entry xs array ∙ ap₂ (λ x j. x ++ zeros j) (sym (coefficients_of k entry xs array)) rest

  pub array_of-sum : (u v : CyclotomicValue k) → plus (array_of u) (array_of v) ≡ array_of (value_sum u v)
  unfolding array_of value_sum
  array_of-sum u v =
      let same : length u.coefficients ≡ length v.coefficients = u.count ∙ sym v.count in
      ap (λ j. plus (u.coefficients ++ zeros (42 - length u.coefficients)) (v.coefficients ++ zeros (42 - j))) (sym same)
      ∙ plus-padded u.coefficients v.coefficients (42 - length u.coefficients) same
      ∙ ap (λ j. plus u.coefficients v.coefficients ++ zeros (42 - j)) (sym (length-plus u.coefficients v.coefficients same))

  pub array_of-multiple : (c : ℤ) (u : CyclotomicValue k) → scaled c (array_of u) ≡ array_of (value_multiple c u)
  unfolding array_of value_multiple
  array_of-multiple c u =
      scaled-padded c u.coefficients (42 - length u.coefficients)
      ∙ ap (λ j. scaled c u.coefficients ++ zeros (42 - j)) (sym (length-scaled c u.coefficients))

  module _ (xs ys : List ℤ) (a : is_array k xs ≡ true) (b : is_array k ys ≡ true) where
    pub combined_array : (c : ℤ) → is_array k (plus xs (scaled c ys)) ≡ true
    combined_array c =
        ap (is_array k) (ap₂ (λ x y. plus x (scaled c y)) (array-of_value xs a) (array-of_value ys b)
        ∙ ap (plus _) (array_of-multiple c (cyclotomic_value k ys)) ∙ array_of-sum (cyclotomic_value k xs) (value_multiple c (cyclotomic_value k ys)))
        ∙ is_array-of k entry _

  -- ---- constants
  pub constant_array : (v : ℤ) → is_array k (v ∷ zeros 41) ≡ true
  unfolding is_array
  constant_array v = ap (λ b. b) (noughts (phi_of k) (conductor_bounds k entry).3)
    where
      noughts : (n : ℕ) → 1 < n → list_all is_nought (drop n (v ∷ zeros 41)) ≡ true
      noughts zero h = absurd (omega arith)
      noughts (suc n) h = ap (list_all is_nought) (drop-replicate n 41 (pos 0)) ∙ zeros_noughts (41 - n)

  pub constant_value : (v : ℤ) → cyclotomic_value k (v ∷ zeros 41) ≡ cyclotomic_value k (v ∷ [])
  constant_value v = value_of-padded (cyclotomic k) (v ∷ []) 41

  pub constant_small : (v : ℤ) → nat_abs v ≤ greatest_magnitude → is_small (v ∷ zeros 41) ≡ true
  constant_small v h =
      is_small_yes (v ∷ zeros 41) (size_of (v ∷ zeros 41)) refl (omega (arith, size-cons v (zeros 41), size-zeros 41, h))

  pub zero_value : cyclotomic_value k (zeros 42) ≡ value_nought
  zero_value = value_of-zeros (cyclotomic k) 42

module _ (k : ℕ) (xs ys : List ℤ) where
  pub difference_value : cyclotomic_value k (plus xs (scaled (negsuc 0) ys)) ≡ value_sum (cyclotomic_value k xs) (value_negative (cyclotomic_value k ys))
  difference_value = value_of-plus (cyclotomic k) xs _ ∙ ap (value_sum _) (value_of-scaled (cyclotomic k) (negsuc 0) ys)

  pub sum_value : cyclotomic_value k (plus xs (scaled (pos 1) ys)) ≡ value_sum (cyclotomic_value k xs) (cyclotomic_value k ys)
  sum_value = ap (λ z. cyclotomic_value k (plus xs z)) (scaled-one ys) ∙ value_of-plus (cyclotomic k) xs ys

-- ---- whole numbers and single coefficients
coefficient_padded : (p : List ℤ) (j i : ℕ) → coefficient (p ++ zeros j) i ≡ coefficient p i
unfolding coefficient
coefficient_padded [] zero i = refl
coefficient_padded [] (suc j) zero = refl
coefficient_padded [] (suc j) (suc i) = coefficient_padded [] j i
coefficient_padded (a ∷ p) j zero = refl
coefficient_padded (a ∷ p) j (suc i) = coefficient_padded p j i

coefficient_get : (p : List ℤ) (i : ℕ) → coefficient p i ≡ get_or p i (pos 0)
unfolding coefficient
coefficient_get [] i = refl
coefficient_get (a ∷ p) zero = refl
coefficient_get (a ∷ p) (suc i) = coefficient_get p i

coefficient_past : (p : List ℤ) (i : ℕ) → length p ≤ i → coefficient p i ≡ pos 0
unfolding coefficient
coefficient_past [] i h = refl
coefficient_past (a ∷ p) zero h = absurd (omega arith)
coefficient_past (a ∷ p) (suc i) h = coefficient_past p i (omega arith)

one_and_rest : (xs : List ℤ) → length xs ≡ 42 → list_all is_nought (take 41 (drop 1 xs)) ≡ true → xs ≡ get_or xs 0 (pos 0) ∷ zeros 41
one_and_rest [] e all = absurd (omega (arith, e))
one_and_rest (a ∷ xs) e all =
    let count : length xs ≡ 41 = omega (arith, e) in
    let whole : take 41 xs ≡ xs = ap (λ n. take n xs) (sym count) ∙ take-length xs in
    ap (λ z. a ∷ z) (all_noughts xs (ap (list_all is_nought) (sym whole) ∙ all) ∙ ap zeros count)

module _ (k : ℕ) (entry : is_conductor k ≡ true) (xs : List ℤ) (array : is_array k xs ≡ true) where
  pub coefficient_at : (i : ℕ) → get_or xs i (pos 0) ≡ coefficient (cyclotomic_value k xs).coefficients i
  unfolding array_of
  coefficient_at i =
      let u = cyclotomic_value k xs in
      sym (coefficient_get xs i)
      ∙ ap (λ p. coefficient p i) (array-of_value k entry xs array)
      ∙ coefficient_padded u.coefficients (42 - length u.coefficients) i

  pub coefficient_beyond : (i : ℕ) → 42 ≤ i → pos 0 ≡ coefficient (cyclotomic_value k xs).coefficients i
  coefficient_beyond i h =
      let u = cyclotomic_value k xs in
      sym (coefficient_past u.coefficients i (omega (arith, length-value k entry u, (conductor_bounds k entry).2, h)))

  pub whole_value : list_all is_nought (take 41 (drop 1 xs)) ≡ true → cyclotomic_value k xs ≡ cyclotomic_value k (get_or xs 0 (pos 0) ∷ [])
  whole_value all =
      ap (cyclotomic_value k) (one_and_rest xs (array_length k entry xs array) all)
      ∙ constant_value k entry (get_or xs 0 (pos 0))

  pub not_whole : list_all is_nought (take 41 (drop 1 xs)) ≡ false → (v : ℤ) → cyclotomic_value k xs ≡ cyclotomic_value k (v ∷ []) → ⊥
  not_whole some v e =
      let is : xs ≡ v ∷ zeros 41 =
      array-of_value k entry xs array
      ∙ ap array_of (e ∙ sym (constant_value k entry v))
      ∙ sym (array-of_value k entry (v ∷ zeros 41) (constant_array k entry v)) in
      let clash : true ≡ false = sym (ap (λ z. list_all is_nought (take 41 (drop 1 z))) is) ∙ some in
      cc

-- the test of an array that is 42 long
pub array_test : (k : ℕ) (xs : List ℤ) → length xs ≡ 42 → list_all is_nought (drop (phi_of k) xs) ≡ is_array k xs
unfolding is_array
array_test k xs e = sym (ap (λ b. b && list_all is_nought (drop (phi_of k) xs)) (eq-eqb (length xs) 42 e))

-- a negative fits where its value does
pub negative_fits : (k : ℕ) → is_conductor k ≡ true → (xs : List ℤ) → is_array k xs ≡ true → is_small xs ≡ true → value_fits (value_negative (cyclotomic_value k xs)) ≡ true
unfolding value_fits value_multiple
negative_fits k entry xs array small =
    let u = cyclotomic_value k xs in
    le-leb (value_size (value_negative u)) greatest_magnitude
    (omega (arith, size-scaled (negsuc 0) u.coefficients, size-value k entry xs array, small_means xs small))

-- arrays that stand for one value are one
pub arrays_same : (k : ℕ) → is_conductor k ≡ true → (xs ys : List ℤ) → is_array k xs ≡ true → is_array k ys ≡ true → cyclotomic_value k xs ≡ cyclotomic_value k ys → xs ≡ ys
arrays_same k entry xs ys a b e =
    array-of_value k entry xs a ∙ ap array_of e ∙ sym (array-of_value k entry ys b)

pub scaled_by_power : (k : ℕ) → is_conductor k ≡ true → (e : ℕ) (u : CyclotomicValue k) → value_product (cyclotomic k) (root k (e % k)) u ≡ value_product (cyclotomic k) (power (cyclotomic_ring k) (root k 1) e) u
scaled_by_power k entry e u =
    ap (λ r. value_product (cyclotomic k) r u) (sym (root_modulo k entry e) ∙ sym (power-root (cyclotomic k) e))
