-- Crossed products with a finite group whose numbers are central, as the twisted group algebra is (textbook).
use Rattle.std.specs.Prelude.{◌≡◌}
use Rattle.algebra.specs.Structures.{CommRing}
use Rattle.algebra.specs.Totals.{Finite}
use Rattle.algebra.specs.Groups.{Group}
use Rattle.power_theory.specs.Rings.{Ring, ring_sum}

-- a ring that is spanned over the commutative ring R by elements u_x, one for each x of the group P, with u_1 = 1 and
-- u_x u_y = f(x,y) u_xy for numbers f(x,y) of R that have inverses
pub record CrossedProduct {A G C : Type 0} (R : CommRing A) (F : Finite G) (P : Group G) (T : Ring C) : Type 0 where
  -- c x, for a number c of R
  pub scale : A → C → C
  pub scale_one : (x : C) → scale R.one x ≡ x
  pub scale_scale : (c d : A) (x : C) → scale c (scale d x) ≡ scale (R.mul c d) x
  pub scale_mul : (c : A) (x y : C) → T.mul (scale c x) y ≡ scale c (T.mul x y)
  pub mul_scale : (c : A) (x y : C) → T.mul x (scale c y) ≡ scale c (T.mul x y)
  -- u_x
  pub unit : G → C
  pub unit_one : unit P.one ≡ T.one
  -- f(x,y) and its inverse
  pub factor : G → G → A
  pub factor_inverse : G → G → A
  pub factor_inverts : (x y : G) → R.mul (factor_inverse x y) (factor x y) ≡ R.one
  pub unit_mul : (x y : G) → T.mul (unit x) (unit y) ≡ scale (factor x y) (unit (P.op x y))
  -- the number at u_x
  pub coordinate : C → G → A
  pub coordinate_add : (x y : C) (g : G) → coordinate (T.add x y) g ≡ R.add (coordinate x g) (coordinate y g)
  pub spans : (x : C) → x ≡ ring_sum T F.size (λ i. scale (coordinate x (F.at i)) (unit (F.at i)))
