-- Finite sums in a commutative ring (textbook).
use Rattle.std.specs.Prelude.{◌≡◌, ◌≤◌, ℕ, zero, suc, Bool, true, false, List, [], ◌∷◌}
use Rattle.algebra.specs.Structures.{CommRing}

module _ {A : Type 0} (R : CommRing A) where
  -- f 0 + f 1 + .. + f (n - 1)
  unfoldable pub sum_below : ℕ → (ℕ → A) → A
  sum_below zero f = R.nought
  sum_below (suc n) f = R.add (sum_below n f) (f n)

  -- the element where the test holds, else nought
  unfoldable pub pick : Bool → A → A
  pick true x = x
  pick false x = R.nought

  -- the sum of n copies of an element
  unfoldable pub multiple : ℕ → A → A
  multiple zero x = R.nought
  multiple (suc n) x = R.add (multiple n x) x

  -- the product of n copies of an element
  unfoldable pub power : A → ℕ → A
  power x zero = R.one
  power x (suc n) = R.mul (power x n) x

  -- the sum of the elements of a list
  unfoldable pub sum_list : List A → A
  sum_list [] = R.nought
  sum_list (x ∷ xs) = R.add x (sum_list xs)

-- only nought has a multiple by a whole number from 1 on that is nought (textbook)
pub record IsTorsionFree {A : Type 0} (R : CommRing A) : Type 0 where
  pub cancel : (n : ℕ) (x : A) → 1 ≤ n → multiple R n x ≡ R.nought → x ≡ R.nought
