-- Conjugations of a commutative ring.
use Rattle.std.specs.Prelude.{◌≡◌}
use Rattle.algebra.specs.Structures.{CommRing}

-- a map that respects sums and products and is its own inverse, as complex conjugation (textbook)
pub record Involution {A : Type 0} (R : CommRing A) : Type 0 where
  pub bar : A → A
  pub bar_add : (x y : A) → bar (R.add x y) ≡ R.add (bar x) (bar y)
  pub bar_mul : (x y : A) → bar (R.mul x y) ≡ R.mul (bar x) (bar y)
  pub bar_bar : (x : A) → bar (bar x) ≡ x
