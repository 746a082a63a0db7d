-- Rings with one that need not commute, their sums and powers (textbook).
use Rattle.std.specs.Prelude.{◌≡◌, ℕ, zero, suc}

-- a ring with one
pub record Ring (A : Type 0) : Type 0 where
  pub add : A → A → A
  pub nought : A
  pub neg : A → A
  pub mul : A → A → A
  pub one : A
  pub add_assoc : (x y z : A) → add (add x y) z ≡ add x (add y z)
  pub add_comm : (x y : A) → add x y ≡ add y x
  pub add_nought : (x : A) → add x nought ≡ x
  pub add_neg : (x : A) → add x (neg x) ≡ nought
  pub mul_assoc : (x y z : A) → mul (mul x y) z ≡ mul x (mul y z)
  pub mul_one : (x : A) → mul x one ≡ x
  pub one_mul : (x : A) → mul one x ≡ x
  pub mul_add : (x y z : A) → mul x (add y z) ≡ add (mul x y) (mul x z)
  pub add_mul : (x y z : A) → mul (add x y) z ≡ add (mul x z) (mul y z)

module _ {A : Type 0} (R : Ring A) where
  -- f 0 + f 1 + .. + f (n - 1)
  unfoldable pub ring_sum : ℕ → (ℕ → A) → A
  ring_sum zero f = R.nought
  ring_sum (suc n) f = R.add (ring_sum n f) (f n)

  -- x^n: the product of n factors x, and one for n = 0
  unfoldable pub ring_power : A → ℕ → A
  ring_power x zero = R.one
  ring_power x (suc n) = R.mul (ring_power x n) x
