-- Polynomials over a commutative ring, by the list of their coefficients, constant term first (textbook).
use Rattle.std.specs.Prelude.{◌≡◌, List, [], ◌∷◌}
use Rattle.algebra.specs.Structures.{CommRing}

module _ {A : Type 0} (R : CommRing A) where
  -- the value at x, by Horner
  unfoldable pub value : List A → A → A
  value [] x = R.nought
  value (c ∷ f) x = R.add c (R.mul x (value f x))

  -- every coefficient is nought
  unfoldable pub AllNought : List A → Type 0
  AllNought [] = Unit {0}
  AllNought (c ∷ f) = (c ≡ R.nought) × AllNought f

  -- the quotient of c + x f by x - a, which is the same for each c
  unfoldable pub quotient : List A → A → List A
  quotient [] a = []
  quotient (c ∷ f) a = value (c ∷ f) a ∷ quotient f a
