-- Laws of rings that need not commute, of their sums and of their powers.
use Rattle.power_theory.proofs.Names.{◌≡◌, ℕ, zero, suc, ◌+◌, ◌<◌, refl, sym, ◌∙◌, ap, arith, Ring, ring_sum, ring_power}
use Rattle.std.proofs.Math.Nat.{add-zero, add-suc, mul-zero, mul-suc}
use Rattle.std.specs.Prelude.{◌*◌}

module _ {A : Type 0} (R : Ring A) where
  pub add_assoc : (x y z : A) → R.add (R.add x y) z ≡ R.add x (R.add y z)
  add_assoc = R.add_assoc

  pub add_comm : (x y : A) → R.add x y ≡ R.add y x
  add_comm = R.add_comm

  pub add_nought : (x : A) → R.add x R.nought ≡ x
  add_nought = R.add_nought

  pub mul_assoc : (x y z : A) → R.mul (R.mul x y) z ≡ R.mul x (R.mul y z)
  mul_assoc = R.mul_assoc

  pub mul_one : (x : A) → R.mul x R.one ≡ x
  mul_one = R.mul_one

  pub one_mul : (x : A) → R.mul R.one x ≡ x
  one_mul = R.one_mul

  pub mul_add : (x y z : A) → R.mul x (R.add y z) ≡ R.add (R.mul x y) (R.mul x z)
  mul_add = R.mul_add

  pub add_mul : (x y z : A) → R.mul (R.add x y) z ≡ R.add (R.mul x z) (R.mul y z)
  add_mul = R.add_mul

  pub nought_add : (x : A) → R.add R.nought x ≡ x
  nought_add x = R.add_comm R.nought x ∙ R.add_nought x

  pub add_left_comm : (x y z : A) → R.add x (R.add y z) ≡ R.add y (R.add x z)
  add_left_comm x y z = sym (R.add_assoc x y z) ∙ ap (λ a. R.add a z) (R.add_comm x y) ∙ R.add_assoc y x z

  neg_add_add : (x y : A) → R.add (R.neg x) (R.add x y) ≡ y
  neg_add_add x y = sym (R.add_assoc (R.neg x) x y) ∙ ap (λ a. R.add a y) (R.add_comm (R.neg x) x ∙ R.add_neg x) ∙ nought_add y

  -- x + y = x only for y = 0
  pub add_fixed : (x y : A) → R.add x y ≡ x → y ≡ R.nought
  add_fixed x y h = sym (neg_add_add x y) ∙ ap (R.add (R.neg x)) (h ∙ sym (R.add_nought x)) ∙ neg_add_add x R.nought

  pub mul_nought : (x : A) → R.mul x R.nought ≡ R.nought
  mul_nought x =
      add_fixed (R.mul x R.nought) (R.mul x R.nought) (sym (R.mul_add x R.nought R.nought) ∙ ap (R.mul x) (R.add_nought R.nought))

  pub nought_mul : (x : A) → R.mul R.nought x ≡ R.nought
  nought_mul x =
      add_fixed (R.mul R.nought x) (R.mul R.nought x) (sym (R.add_mul R.nought R.nought x) ∙ ap (λ a. R.mul a x) (R.add_nought R.nought))

-- multiplies out, and sorts sums
pub ruleset any_ring_rules = (nought_add, add_nought, mul_nought, nought_mul, mul_one, one_mul, mul_add, add_mul, add_assoc, add_comm, add_left_comm, mul_assoc)

module _ {A : Type 0} (R : Ring A) where
  pub sum_zero : (f : ℕ → A) → ring_sum R zero f ≡ R.nought
  unfolding ring_sum
  sum_zero f = refl

  pub sum_suc : (n : ℕ) (f : ℕ → A) → ring_sum R (suc n) f ≡ R.add (ring_sum R n f) (f n)
  unfolding ring_sum
  sum_suc n f = refl

  pub power_zero : (x : A) → ring_power R x zero ≡ R.one
  unfolding ring_power
  power_zero x = refl

  pub power_suc : (x : A) (n : ℕ) → ring_power R x (suc n) ≡ R.mul (ring_power R x n) x
  unfolding ring_power
  power_suc x n = refl

module _ {A : Type 0} (R : Ring A) where
  -- a factor goes into a sum
  pub mul_sum : (n : ℕ) (c : A) (f : ℕ → A) → R.mul c (ring_sum R n f) ≡ ring_sum R n (λ i. R.mul c (f i))
  mul_sum zero c f = simp (sum_zero, mul_nought)
  mul_sum (suc n) c f = simp (sum_suc, ← mul_sum n c f, mul_add)

  pub sum_add : (n : ℕ) (f g : ℕ → A) → ring_sum R n (λ i. R.add (f i) (g i)) ≡ R.add (ring_sum R n f) (ring_sum R n g)
  sum_add zero f g = simp (sum_zero, add_nought)
  sum_add (suc n) f g = simp (sum_suc, sum_add n f g, any_ring_rules, R)

  pub sum_nought : (n : ℕ) → ring_sum R n (λ i. R.nought) ≡ R.nought
  sum_nought zero = sum_zero R (λ i. R.nought)
  sum_nought (suc n) = simp (sum_suc, sum_nought n, add_nought)

  -- what holds of nought, of sums of two and of every term holds of a sum
  pub sum_holds : (P : A → Type 0) → P R.nought → ((x y : A) → P x → P y → P (R.add x y)) → (n : ℕ) (f : ℕ → A) → ((i : ℕ) → P (f i)) → P (ring_sum R n f)
  sum_holds P start step zero f each = rw (sum_zero R f) start
  sum_holds P start step (suc n) f each =
      rw (sum_suc R n f) (step (ring_sum R n f) (f n) (sum_holds P start step n f each) (each n))

  -- x^(n + 1) = x x^n
  pub power_first : (x : A) (n : ℕ) → ring_power R x (suc n) ≡ R.mul x (ring_power R x n)
  power_first x zero = simp (power_suc R x 0, power_zero, one_mul, mul_one)
  power_first x (suc n) = power_suc R x (suc n) ∙ ap (λ y. R.mul y x) (power_first x n) ∙ simp (power_suc, mul_assoc)

  pub nought_power : (n : ℕ) → 0 < n → ring_power R R.nought n ≡ R.nought
  nought_power zero positive = absurd (omega arith)
  nought_power (suc n) positive = power_suc R R.nought n ∙ mul_nought R (ring_power R R.nought n)

  pub one_power : (n : ℕ) → ring_power R R.one n ≡ R.one
  one_power zero = power_zero R R.one
  one_power (suc n) = simp (power_suc, mul_one, one_power n)

  pub power_add : (x : A) (n m : ℕ) → ring_power R x (n + m) ≡ R.mul (ring_power R x n) (ring_power R x m)
  power_add x n zero = simp (add-zero, power_zero, mul_one)
  power_add x n (suc m) = simp (add-suc, power_suc, power_add x n m, mul_assoc)

  pub power_mul : (x : A) (n m : ℕ) → ring_power R x (n * m) ≡ ring_power R (ring_power R x n) m
  power_mul x n zero = simp (mul-zero, power_zero)
  power_mul x n (suc m) = simp (mul-suc, power_suc, power_add, power_mul x n m)

  -- powers of what commutes with y commute with y
  pub power_commutes : (x y : A) → R.mul x y ≡ R.mul y x → (n : ℕ) → R.mul (ring_power R x n) y ≡ R.mul y (ring_power R x n)
  power_commutes x y h zero = simp (power_zero, mul_one, one_mul)
  power_commutes x y h (suc n) =
      simp (power_suc, mul_assoc, h)
      (sym (R.mul_assoc (ring_power R x n) y x) ∙ ap (λ z. R.mul z x) (power_commutes x y h n) ∙ R.mul_assoc y (ring_power R x n) x)
