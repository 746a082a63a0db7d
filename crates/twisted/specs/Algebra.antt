-- The twisted group algebra of a twist over a commutative ring with a root of unity z whose order m is a multiple of the modulus N
-- (textbook). Every index is a place; an element of the algebra is its coefficients by place.
use Rattle.std.specs.Prelude.{◌≡◌, ℕ, ◌*◌, ◌/◌, ◌<◌, Bool, ◌==◌, List, map, slice_index, slice_index_or}
use Rattle.std.specs.Option.{option_map_or}
use Rattle.algebra.specs.Structures.{CommRing}
use Rattle.algebra.specs.Sums.{sum_below, pick, power}
use Rattle.algebra.specs.Roots.{RootOfUnity}
use Rattle.group_table.specs.Group.{product, inverse}
use Rattle.classes.specs.Conjugacy.{least_transporter}
use Rattle.qd_ring.specs.Fit.{FitRules, term_fits, sum_overflows}
use Rattle.twisted.specs.Twist.{TwistedSubgroup, size, phase}
use Rattle.twisted.specs.Regular.{kappa, regular_representatives, rank}

-- y^-1 x
abbrev pub left_quotient : TwistedSubgroup → ℕ → ℕ → ℕ
left_quotient s y x = product s.group (inverse s.group y) x

-- v m / N: the exponent modulo m of the root with exponent v modulo N
abbrev pub exponent : ℕ → TwistedSubgroup → ℕ → ℕ
exponent m s v = v * (m / s.modulus)

-- the coefficient at place p of a list of them, whose entries stand for elements of the ring
abbrev pub coefficient : {E A : Type 0} → (E → A) → A → List E → ℕ → A
coefficient of nought coefficients p = slice_index_or (map of coefficients) p nought

module _ {A : Type 0} (R : CommRing A) {m : ℕ} (U : RootOfUnity R m) (s : TwistedSubgroup) where
  -- e(v) = z^(v m / N), the root with exponent v modulo N
  abbrev pub root : ℕ → A
  root v = power R U.root (exponent m s v)

  -- the term at y of the product of p and r at x: e(th(y, y^-1 x)) p(y) r(y^-1 x)
  abbrev pub product_term : (ℕ → A) → (ℕ → A) → ℕ → ℕ → A
  product_term p r x y = R.mul (root (phase s y (left_quotient s y x))) (R.mul (p y) (r (left_quotient s y x)))

  -- the product of p and r at x: the sum of its terms over all y
  abbrev pub twisted_product : (ℕ → A) → (ℕ → A) → ℕ → A
  twisted_product p r x = sum_below R (size s) (product_term p r x)

  -- that sum overflows, its terms listed by y: the product of the two coefficients, then its multiplication by the root
  abbrev pub product_overflows : FitRules R → (ℕ → A) → (ℕ → A) → ℕ → Bool
  product_overflows rules p r x =
      sum_overflows R rules (size s) (λ y. term_fits R rules U.root (exponent m s (phase s y (left_quotient s y x))) (p y) (r (left_quotient s y x))) (product_term p r x)

  -- u_y: 1 at y, 0 elsewhere
  abbrev pub unit_vector : ℕ → ℕ → A
  unit_vector y x = pick R (x == y) R.one

  -- z commutes with every u_y
  pub record IsCentral (z : ℕ → A) : Type 0 where
    pub commutes : (y x : ℕ) → y < size s → x < size s → twisted_product z (unit_vector y) x ≡ twisted_product (unit_vector y) z x

  -- the class sum of p: e(ka(c,p)) at each conjugate c p c^-1, where c is the least that carries p there, and 0 elsewhere
  abbrev pub class_sum : ℕ → ℕ → A
  class_sum p y = option_map_or (λ c. root (kappa s c p)) (least_transporter s.group p y) R.nought

  -- the combination of the class sums of the representatives of the regular classes with these coefficients, at x
  abbrev pub combination : (ℕ → A) → ℕ → A
  combination f x = sum_below R (rank s) (λ i. R.mul (f i) (class_sum (slice_index (regular_representatives s) i) x))
