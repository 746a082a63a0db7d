-- The twisted group algebra: functions on a finite group, multiplied with a phase.
use Rattle.std.specs.Prelude.{ℕ, ◌+◌}
use Rattle.algebra.specs.Structures.{CommRing}
use Rattle.algebra.specs.Totals.{Finite, total}
use Rattle.algebra.specs.Groups.{Group}
use Rattle.algebra.specs.Congruences.{Same}
use Rattle.algebra.specs.Roots.{Roots}

-- t is a normalised 2-cocycle with exponents modulo n (textbook)
pub record IsTwoCocycle {G : Type 0} (P : Group G) (n : ℕ) (t : G → G → ℕ) : Type 0 where
  pub law : (x y z : G) → Same n (t x y + t (P.op x y) z) (t x (P.op y z) + t y z)
  pub at_one_left : (x : G) → Same n (t P.one x) 0
  pub at_one_right : (x : G) → Same n (t x P.one) 0

-- the product of two functions at x: the sum over y of e(t(y, y^-1 x)) p(y) r(y^-1 x) (textbook)
unfoldable pub twisted_convolution : {A G : Type 0} (R : CommRing A) (F : Finite G) (P : Group G) {n : ℕ} → Roots R n → (G → G → ℕ) → (G → A) → (G → A) → G → A
twisted_convolution R F P B t p r x =
    total R F (λ y. R.mul (B.root (t y (P.op (P.inv y) x))) (R.mul (p y) (r (P.op (P.inv y) x))))
