-- Roots of unity in a commutative ring, named by exponents.
use Rattle.std.specs.Prelude.{◌≡◌, ◌≢◌, ℕ, ◌+◌, ◌*◌, ◌%◌, ◌<◌}
use Rattle.algebra.specs.Structures.{CommRing}
use Rattle.algebra.specs.Sums.{sum_below, multiple, power}
use Rattle.algebra.specs.Congruences.{Same}

-- an element for each exponent modulo n: products of roots are sums of exponents (textbook)
pub record Roots {A : Type 0} (R : CommRing A) (n : ℕ) : Type 0 where
  pub root : ℕ → A
  pub root_zero : root 0 ≡ R.one
  pub root_add : (v w : ℕ) → root (v + w) ≡ R.mul (root v) (root w)
  pub root_same : (v w : ℕ) → Same n v w → root v ≡ root w

-- an n-th root of unity z over which whole-number sums tell exponents apart
pub record RootOfUnity {A : Type 0} (R : CommRing A) (n : ℕ) : Type 0 where
  pub root : A
  pub positive : 0 < n
  -- z^n = 1
  pub cycle : power R root n ≡ R.one
  -- the sum over j below n of z^(j e) is nought where n doesn't divide e
  pub sum_vanishes : (e : ℕ) → e % n ≢ 0 → sum_below R n (λ j. power R root (j * e)) ≡ R.nought
  -- what is nought times n is nought
  pub cancel : (x : A) → multiple R n x ≡ R.nought → x ≡ R.nought
