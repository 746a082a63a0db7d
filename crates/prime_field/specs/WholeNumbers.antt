-- Whole numbers and polynomials with whole coefficients in a commutative ring (textbook).
use Rattle.std.specs.Prelude.{suc, ℤ, pos, negsuc, List, [], ◌∷◌}
use Rattle.algebra.specs.Structures.{CommRing}
use Rattle.algebra.specs.Sums.{multiple}

module _ {A : Type 0} (R : CommRing A) where
  -- the whole number c of the ring: so many copies of its one, or minus so many
  unfoldable pub whole : ℤ → A
  whole (pos n) = multiple R n R.one
  whole (negsuc n) = R.neg (multiple R (suc n) R.one)

  -- a0 + a1 z + a2 z^2 + .., for the polynomial with coefficients a0, a1, a2, ..
  unfoldable pub polynomial_at : A → List ℤ → A
  polynomial_at z [] = R.nought
  polynomial_at z (a ∷ p) = R.add (whole a) (R.mul z (polynomial_at z p))
