-- A finite group whose elements are the numbers below its size, and the powers of an element.
use Rattle.std.specs.Prelude.{◌≡◌, ℕ, zero, suc, ◌<◌}

-- a finite group whose elements are the numbers below n (textbook)
pub record IsGroupBelow (n : ℕ) (op : ℕ → ℕ → ℕ) (unit : ℕ) : Type 0 where
  pub unit_below : unit < n
  pub closed : (g h : ℕ) → g < n → h < n → op g h < n
  pub unit_left : (g : ℕ) → g < n → op unit g ≡ g
  pub unit_right : (g : ℕ) → g < n → op g unit ≡ g
  pub right_inverse : (g : ℕ) → g < n → (h : ℕ) × (h < n) × (op g h ≡ unit)
  pub associative : (g h k : ℕ) → g < n → h < n → k < n → op (op g h) k ≡ op g (op h k)

-- the power g^j: the product of j factors g, and the identity for j = 0 (textbook)
unfoldable pub power : (ℕ → ℕ → ℕ) → ℕ → ℕ → ℕ → ℕ
power op unit g zero = unit
power op unit g (suc j) = op (power op unit g j) g
