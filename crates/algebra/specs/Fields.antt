-- Fields (textbook).
use Rattle.std.specs.Prelude.{◌≡◌, ◌≢◌, Bool, true, false}
use Rattle.algebra.specs.Structures.{CommRing}

-- a commutative ring in which each element other than nought has an inverse, with a test of being nought
pub record Field {A : Type 0} (R : CommRing A) : Type 0 where
  pub inverse : A → A
  pub is_nought : A → Bool
  pub passes : (x : A) → is_nought x ≡ true → x ≡ R.nought
  pub fails : (x : A) → is_nought x ≡ false → x ≢ R.nought
  pub mul_inverse : (x : A) → x ≢ R.nought → R.mul x (inverse x) ≡ R.one
  pub one_is_not_nought : R.one ≢ R.nought
