-- Sizes of sums, multiples and products of values.
use Rattle.cyclotomic.proofs.Names.{◌≡◌, ℕ, zero, suc, ◌+◌, ◌*◌, ◌≤◌, max, List, [], ◌∷◌, length, refl, sym, ap, ◌∙◌, subst, arith, mul-le-mul_left, ℤ, pos, negsuc, ◌+ℤ◌, ◌*ℤ◌, neg_ℤ, nat_abs, sum_is_lem, abs_is, zeros, plus, scaled, degree, Value, value_sum, value_multiple, value_nought, value_one, value_product, size_of, value_size, iterate, iterate-zero, iterate-suc, iterate-sum, iterate-inner, act, act-nil, act-cons, act-map, act-iterate, value_shift, times_x, act-itself, product-act}

pub magnitude-sum : (a b : ℤ) → nat_abs (a +ℤ b) ≤ nat_abs a + nat_abs b
magnitude-sum a b = omega (arith, abs_is (a +ℤ b), abs_is a, abs_is b, sum_is_lem a b)

pub magnitude-negative : (a : ℤ) → nat_abs (neg_ℤ a) ≡ nat_abs a
magnitude-negative (pos zero) = refl
magnitude-negative (pos (suc n)) = refl
magnitude-negative (negsuc n) = refl

pub magnitude-product : (a b : ℤ) → nat_abs (a *ℤ b) ≡ nat_abs a * nat_abs b
magnitude-product (pos a) (pos b) = refl
magnitude-product (pos a) (negsuc b) = magnitude-negative (pos (a * suc b))
magnitude-product (negsuc a) (pos b) = magnitude-negative (pos (suc a * b))
magnitude-product (negsuc a) (negsuc b) = refl

pub size-nil : size_of [] ≡ 0
unfolding size_of
size-nil = refl

pub size-cons : (a : ℤ) (p : List ℤ) → size_of (a ∷ p) ≡ max (nat_abs a) (size_of p)
unfolding size_of
size-cons a p = refl

pub size-zeros : (n : ℕ) → size_of (zeros n) ≡ 0
unfolding size_of
size-zeros zero = refl
size-zeros (suc n) = omega (arith, size-zeros n)

pub size-plus : (p q : List ℤ) → size_of (plus p q) ≤ size_of p + size_of q
unfolding size_of plus
size-plus [] q = omega arith
size-plus (a ∷ p) [] = omega arith
size-plus (a ∷ p) (b ∷ q) = omega (arith, magnitude-sum a b, size-plus p q)

pub size-scaled : (c : ℤ) (p : List ℤ) → size_of (scaled c p) ≤ nat_abs c * size_of p
unfolding size_of scaled
size-scaled c [] = omega arith
size-scaled c (a ∷ p) =
    let first : nat_abs c * nat_abs a ≤ nat_abs c * max (nat_abs a) (size_of p) = mul-le-mul_left (nat_abs c) (omega arith) in
    let rest : nat_abs c * size_of p ≤ nat_abs c * max (nat_abs a) (size_of p) = mul-le-mul_left (nat_abs c) (omega arith) in
    omega (arith, first, rest, magnitude-product c a, size-scaled c p)

-- the sum of the magnitudes
unfoldable pub total_of : List ℤ → ℕ
total_of [] = 0
total_of (a ∷ p) = nat_abs a + total_of p

pub total-size : (p : List ℤ) → total_of p ≤ length p * size_of p
unfolding size_of total_of
total-size [] = omega arith
total-size (a ∷ p) =
    let rest : length p * size_of p ≤ length p * max (nat_abs a) (size_of p) = mul-le-mul_left (length p) (omega arith) in
    omega (arith, rest, total-size p)

module _ (m : List ℤ) where
  -- the size of p of "times x" at w, where all x^i w are of size at most b
  pub size-act : (p : List ℤ) (w : Value (degree m)) (b : ℕ) → ((i : ℕ) → value_size (iterate (value_shift m) i w) ≤ b) → value_size (act (times_x m) p w) ≤ total_of p * b
  unfolding total_of value_nought value_sum value_multiple
  size-act [] w b bounded = omega (arith, ap (λ v. value_size v) (act-nil (times_x m) w), size-zeros (degree m))
  size-act (a ∷ p) w b bounded =
      let M = times_x m in
      let is : act M (a ∷ p) w ≡ value_sum (value_multiple a w) (act M p (value_shift m w)) =
      act-cons M a p w ∙ ap (value_sum (value_multiple a w)) (sym (act-map M p w)) in
      let here : value_size w ≤ b = subst (λ v. value_size v ≤ b) (iterate-zero M w) (bounded 0) in
      let rest : value_size (act M p (value_shift m w)) ≤ total_of p * b =
      size-act p (value_shift m w) b
      (λ i. subst (λ v. value_size v ≤ b) (sym (iterate-inner M i w)) (subst (λ v. value_size v ≤ b) (iterate-suc M i w) (bounded (suc i)))) in
      let first : nat_abs a * value_size w ≤ nat_abs a * b = mul-le-mul_left (nat_abs a) here in
      omega
      (arith, ap (λ v. value_size v) is, size-plus (scaled a w.coefficients) (act M p (value_shift m w)).coefficients, size-scaled a w.coefficients, first, rest)

  -- the size of x^i v, where reduced powers of x are of size at most 1
  pub size-steps : ((i : ℕ) → value_size (iterate (value_shift m) i (value_one m)) ≤ 1) → (v : Value (degree m)) (i : ℕ) → value_size (iterate (value_shift m) i v) ≤ total_of v.coefficients
  size-steps small v i =
      let M = times_x m in
      let is : iterate (value_shift m) i v ≡ act M v.coefficients (iterate (value_shift m) i (value_one m)) =
      ap (iterate (value_shift m) i) (sym (act-itself m v)) ∙ sym (act-iterate M v.coefficients i (value_one m)) in
      let bound : value_size (act M v.coefficients (iterate (value_shift m) i (value_one m))) ≤ total_of v.coefficients * 1 =
      size-act v.coefficients (iterate (value_shift m) i (value_one m)) 1
      (λ j. subst (λ u. value_size u ≤ 1) (iterate-sum M j i (value_one m)) (small (j + i))) in
      omega (arith, ap (λ u. value_size u) is, bound)

  pub size-product : ((i : ℕ) → value_size (iterate (value_shift m) i (value_one m)) ≤ 1) → (u v : Value (degree m)) → value_size (value_product m u v) ≤ total_of u.coefficients * total_of v.coefficients
  size-product small u v =
      subst (λ w. value_size w ≤ total_of u.coefficients * total_of v.coefficients) (sym (product-act m u v))
      (size-act u.coefficients v (total_of v.coefficients) (size-steps small v))
