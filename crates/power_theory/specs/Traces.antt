-- Traces of a ring in a commutative ring, and the characteristic (textbook).
use Rattle.std.specs.Prelude.{◌≡◌, ℕ, ◌<◌}
use Rattle.algebra.specs.Structures.{CommRing}
use Rattle.algebra.specs.Sums.{multiple}
use Rattle.power_theory.specs.Rings.{Ring}

-- a map that respects sums and has one value at xy and at yx, as the trace of matrices (textbook)
pub record Trace {A B : Type 0} (R : Ring A) (S : CommRing B) : Type 0 where
  pub trace : A → B
  pub of_add : (x y : A) → trace (R.add x y) ≡ S.add (trace x) (trace y)
  pub of_mul : (x y : A) → trace (R.mul x y) ≡ trace (R.mul y x)

-- the characteristic is q, as in a field of residues modulo q: q copies of any element add up to nought, and fewer copies, from one
-- on, only of nought (textbook)
pub record HasCharacteristic {B : Type 0} (S : CommRing B) (q : ℕ) : Type 0 where
  pub vanishes : (x : B) → multiple S q x ≡ S.nought
  pub cancels : (k : ℕ) (x : B) → 0 < k → k < q → multiple S k x ≡ S.nought → x ≡ S.nought
