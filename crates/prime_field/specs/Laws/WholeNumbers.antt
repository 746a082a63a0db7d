-- The whole numbers of a commutative ring respect sums and products.
use Rattle.std.proofs.Common.{◌≡◌, ℕ, suc, ◌+◌, ◌*◌, sym, ap, ◌∙◌, arith}
use Rattle.std.specs.Prelude.{ℤ, pos, negsuc, ◌+ℤ◌, ◌*ℤ◌}
use mathlib.Core.Path.{ap₂}
use borrow.Author.Differences.{up, down, sum_is_lem, product_is}
use Rattle.algebra.specs.Structures.{CommRing}
use Rattle.algebra.specs.Sums.{multiple}
use Rattle.algebra.proofs.RingLaws.{ring_rules, nought_add, neg_nought}
use Rattle.algebra.proofs.SumLaws.{multiple_zero, multiple_one, multiple_add, multiple_mul, multiple_multiple}
use Rattle.prime_field.specs.WholeNumbers.{whole}

module _ {A : Type 0} (R : CommRing A) where
  -- m - n
  difference : ℕ → ℕ → A
  difference m n = R.add (multiple R m R.one) (R.neg (multiple R n R.one))

  -- it depends on the difference alone
  difference_same : (m n m' n' : ℕ) → m + n' ≡ m' + n → difference m n ≡ difference m' n'
  unfolding difference
  difference_same m n m' n' e =
      let x = multiple R m R.one in
      let y = multiple R n R.one in
      let x' = multiple R m' R.one in
      let y' = multiple R n' R.one in
      let both : R.add x y' ≡ R.add x' y = sym (multiple_add R m n' R.one) ∙ ap (λ k. multiple R k R.one) e ∙ multiple_add R m' n R.one in
      let left : R.add (R.neg y) (R.add (R.add x y') (R.neg y')) ≡ R.add x (R.neg y) = simp (ring_rules, R) in
      let right : R.add (R.neg y) (R.add (R.add x' y) (R.neg y')) ≡ R.add x' (R.neg y') = simp (ring_rules, R) in
      sym left ∙ ap (λ a. R.add (R.neg y) (R.add a (R.neg y'))) both ∙ right

  difference_add : (m n m' n' : ℕ) → R.add (difference m n) (difference m' n') ≡ difference (m + m') (n + n')
  unfolding difference
  difference_add m n m' n' =
      sym
      (ap₂ (λ a b. R.add a (R.neg b)) (multiple_add R m m' R.one) (multiple_add R n n' R.one) ∙ simp (ring_rules, R))

  one_products : (m n : ℕ) → R.mul (multiple R m R.one) (multiple R n R.one) ≡ multiple R (m * n) R.one
  one_products m n = multiple_mul R m R.one (multiple R n R.one) ∙ ap (multiple R m) (R.mul_comm R.one (multiple R n R.one) ∙ R.mul_one (multiple R n R.one)) ∙ multiple_multiple R m n R.one

  difference_mul : (m n m' n' : ℕ) → R.mul (difference m n) (difference m' n') ≡ difference (m * m' + n * n') (m * n' + n * m')
  unfolding difference
  difference_mul m n m' n' =
      let x = multiple R m R.one in
      let y = multiple R n R.one in
      let x' = multiple R m' R.one in
      let y' = multiple R n' R.one in
      let expanded : R.mul (R.add x (R.neg y)) (R.add x' (R.neg y')) ≡ R.add (R.add (R.mul x x') (R.mul y y')) (R.neg (R.add (R.mul x y') (R.mul y x'))) =
      simp (ring_rules, R) in
      expanded
      ∙ ap₂ (λ a b. R.add a (R.neg b))
      (ap₂ R.add (one_products m m') (one_products n n') ∙ sym (multiple_add R (m * m') (n * n') R.one))
      (ap₂ R.add (one_products m n') (one_products n m') ∙ sym (multiple_add R (m * n') (n * m') R.one))

  whole_difference : (c : ℤ) → whole R c ≡ difference (up c) (down c)
  unfolding whole difference
  whole_difference (pos n) = sym (ap (λ a. R.add (multiple R n R.one) (R.neg a)) (multiple_zero R R.one) ∙ simp (neg_nought, R.add_nought))
  whole_difference (negsuc n) = sym (ap (λ a. R.add a (R.neg (multiple R (suc n) R.one))) (multiple_zero R R.one) ∙ nought_add R (R.neg (multiple R (suc n) R.one)))

  pub whole_sum : (a b : ℤ) → whole R (a +ℤ b) ≡ R.add (whole R a) (whole R b)
  whole_sum a b =
      whole_difference (a +ℤ b)
      ∙ difference_same (up (a +ℤ b)) (down (a +ℤ b)) (up a + up b) (down a + down b) (omega (arith, sum_is_lem a b))
      ∙ sym (difference_add (up a) (down a) (up b) (down b))
      ∙ sym (ap₂ R.add (whole_difference a) (whole_difference b))

  pub whole_product : (a b : ℤ) → whole R (a *ℤ b) ≡ R.mul (whole R a) (whole R b)
  whole_product a b =
      let product = product_is a b in
      whole_difference (a *ℤ b)
      ∙ difference_same (up (a *ℤ b)) (down (a *ℤ b)) (up a * up b + down a * down b) (up a * down b + down a * up b) (omega (arith, product.0, product.1))
      ∙ sym (difference_mul (up a) (down a) (up b) (down b))
      ∙ sym (ap₂ R.mul (whole_difference a) (whole_difference b))

  pub whole_one : whole R (pos 1) ≡ R.one
  unfolding whole
  whole_one = multiple_one R R.one

  pub whole_zero : whole R (pos 0) ≡ R.nought
  unfolding whole
  whole_zero = multiple_zero R R.one
