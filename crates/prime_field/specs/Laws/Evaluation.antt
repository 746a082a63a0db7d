-- The value of a polynomial at an element of a commutative ring, and what a root of a cyclotomic polynomial is there.
use Rattle.std.proofs.Common.{◌≡◌, ℕ, zero, suc, ◌*◌, List, [], ◌∷◌, true, sym, ap, ◌∙◌}
use Rattle.std.specs.Prelude.{ℤ, pos}
use mathlib.Core.Path.{ap₂}
use Rattle.algebra.specs.Structures.{CommRing}
use Rattle.algebra.specs.Sums.{sum_below, multiple, power}
use Rattle.algebra.specs.Roots.{RootOfUnity}
use Rattle.algebra.proofs.RingLaws.{one_mul, nought_mul, add_mul, mul_left_comm}
use Rattle.algebra.proofs.SumLaws.{sum_ext, sum_map, nought_map, power_zero, power_suc}
use Rattle.cyclotomic.specs.Polynomial.{plus, times, x_to, leading}
use Rattle.cyclotomic.specs.Division.{degree, remainder}
use Rattle.cyclotomic.specs.Cyclotomic.{cyclotomic}
use Rattle.cyclotomic.specs.Conductors.{is_conductor}
use Rattle.cyclotomic.specs.Ring.{Value, value_sum, value_nought, value_of, value_one, value_root}
use Rattle.cyclotomic.specs.CyclotomicRing.{remainder_ring}
use Rattle.cyclotomic.specs.Laws.Action.{LinearMap, iterate, act, act-nil, act-cons, act-plus, act-times, act-one, act-x_to, act-remainder}
use Rattle.cyclotomic.proofs.Checks.{conductor_positive}
use Rattle.cyclotomic.proofs.Fields.{cyclotomic_monic, cyclotomic_period}
use Rattle.cyclotomic.proofs.Orthogonality.{power-root, x_sum_vanishes}
use Rattle.prime_field.specs.WholeNumbers.{whole, polynomial_at}
use Rattle.prime_field.specs.Laws.WholeNumbers.{whole_sum, whole_product, whole_one, whole_zero}

module _ {A : Type 0} (R : CommRing A) (z : A) where
  -- the ring, with "times z"
  abbrev times_z : LinearMap A
  times_z = record {
    add = R.add;
    nought = R.nought;
    scale = λ c v. R.mul (whole R c) v;
    map = λ v. R.mul z v;
    add_assoc = R.add_assoc;
    add_comm = R.add_comm;
    add_nought = R.add_nought;
    scale_add = λ c u v. R.mul_add (whole R c) u v;
    scale_sum = λ a b v. ap (λ w. R.mul w v) (whole_sum R a b) ∙ add_mul R (whole R a) (whole R b) v;
    scale_product = λ a b v. ap (λ w. R.mul w v) (whole_product R a b) ∙ R.mul_assoc (whole R a) (whole R b) v;
    scale_one = λ v. ap (λ w. R.mul w v) (whole_one R) ∙ one_mul R v;
    scale_zero = λ v. ap (λ w. R.mul w v) (whole_zero R) ∙ nought_mul R v;
    map_add = λ u v. R.mul_add z u v;
    map_scale = λ c v. mul_left_comm R z (whole R c) v;
  }

  -- the value at z is the action on 1
  value-act : (p : List ℤ) → polynomial_at R z p ≡ act times_z p R.one
  unfolding polynomial_at
  value-act [] = sym (act-nil times_z R.one)
  value-act (a ∷ p) =
      ap₂ (λ u v. R.add u (R.mul z v)) (sym (R.mul_one (whole R a))) (value-act p) ∙ sym (act-cons times_z a p R.one)

  -- the action is the product with the value at z
  act-product : (p : List ℤ) (v : A) → act times_z p v ≡ R.mul (act times_z p R.one) v
  act-product [] v = act-nil times_z v ∙ sym (ap (λ a. R.mul a v) (act-nil times_z R.one) ∙ nought_mul R v)
  act-product (a ∷ p) v =
      let w = act times_z p R.one in
      act-cons times_z a p v
      ∙ ap (λ x. R.add (R.mul (whole R a) v) (R.mul z x)) (act-product p v)
      ∙ ap₂ (λ x y. R.add (R.mul x v) y) (sym (R.mul_one (whole R a))) (sym (R.mul_assoc z w v))
      ∙ sym (add_mul R (R.mul (whole R a) R.one) (R.mul z w) v)
      ∙ ap (λ x. R.mul x v) (sym (act-cons times_z a p R.one))

  -- the value of a sum is the sum of the values, and so of a product
  pub value-plus : (p r : List ℤ) → polynomial_at R z (plus p r) ≡ R.add (polynomial_at R z p) (polynomial_at R z r)
  value-plus p r = value-act (plus p r) ∙ act-plus times_z p r R.one ∙ sym (ap₂ R.add (value-act p) (value-act r))

  pub value-times : (p r : List ℤ) → polynomial_at R z (times p r) ≡ R.mul (polynomial_at R z p) (polynomial_at R z r)
  value-times p r =
      value-act (times p r) ∙ act-times times_z p r R.one ∙ act-product p (act times_z r R.one) ∙ sym (ap₂ R.mul (value-act p) (value-act r))

  iterate-power_of : (v : ℕ) → iterate (λ u. R.mul z u) v R.one ≡ power R z v
  unfolding iterate
  iterate-power_of zero = sym (power_zero R z)
  iterate-power_of (suc v) = ap (R.mul z) (iterate-power_of v) ∙ R.mul_comm z (power R z v) ∙ sym (power_suc R z v)

  module _ (m : List ℤ) (monic : leading m ≡ pos 1) (vanishes : polynomial_at R z m ≡ R.nought) where
    -- where m is nought at z, the value of a remainder modulo m at z is that of the polynomial
    pub value-remainder : (p : List ℤ) → polynomial_at R z (remainder m p) ≡ polynomial_at R z p
    value-remainder p = value-act (remainder m p) ∙ act-remainder times_z m p R.one monic (sym (value-act m) ∙ vanishes) ∙ sym (value-act p)

    evaluated : Value (degree m) → A
    evaluated u = act times_z u.coefficients R.one

    evaluated_of : (p : List ℤ) → evaluated (value_of m p) ≡ act times_z p R.one
    unfolding evaluated value_of
    evaluated_of p = act-remainder times_z m p R.one monic (sym (value-act m) ∙ vanishes)

    evaluated_sum : (u v : Value (degree m)) → evaluated (value_sum u v) ≡ R.add (evaluated u) (evaluated v)
    unfolding evaluated value_sum
    evaluated_sum u v = act-plus times_z u.coefficients v.coefficients R.one

    evaluated_root : (v : ℕ) → evaluated (value_root m v) ≡ power R z v
    evaluated_root v = evaluated_of (x_to v) ∙ act-x_to times_z v R.one ∙ iterate-power_of v

    evaluated_one : evaluated (value_one m) ≡ R.one
    evaluated_one = evaluated_of (pos 1 ∷ []) ∙ act-one times_z R.one

    -- where x^k is 1 modulo m, so is z^k
    pub period_at : (k : ℕ) → value_root m k ≡ value_one m → power R z k ≡ R.one
    period_at k periodic = sym (evaluated_root k) ∙ ap evaluated periodic ∙ evaluated_one

    evaluated_power : (v : ℕ) → evaluated (power (remainder_ring m) (value_root m 1) v) ≡ power R z v
    evaluated_power v = ap evaluated (power-root m v) ∙ evaluated_root v

    -- where a sum of powers of x vanishes modulo m, so does that of z
    pub sum_at : (k e : ℕ) → sum_below (remainder_ring m) k (λ j. power (remainder_ring m) (value_root m 1) (j * e)) ≡ value_nought → sum_below R k (λ j. power R z (j * e)) ≡ R.nought
    sum_at k e zero_sum =
        sym
        (sum_map (remainder_ring m) R evaluated evaluated_sum k (λ j. power (remainder_ring m) (value_root m 1) (j * e))
        ∙ sum_ext R k (λ j. evaluated (power (remainder_ring m) (value_root m 1) (j * e))) (λ j. power R z (j * e)) (λ j below. evaluated_power (j * e)))
        ∙ ap evaluated zero_sum
        ∙ nought_map (remainder_ring m) R evaluated evaluated_sum

-- a root of Phi_K is a root of unity of order K, in a ring in which only nought has a K-fold that is nought
abbrev pub root_of_cyclotomic : {A : Type 0} (R : CommRing A) (z : A) (k : ℕ) → is_conductor k ≡ true → polynomial_at R z (cyclotomic k) ≡ R.nought → ((x : A) → multiple R k x ≡ R.nought → x ≡ R.nought) → RootOfUnity R k
root_of_cyclotomic R z k entry vanishes cancels = record {
  root = z;
  positive = conductor_positive k entry;
  cycle = period_at R z (cyclotomic k) (cyclotomic_monic k entry) vanishes k (cyclotomic_period k entry);
  sum_vanishes = λ e apart. sum_at R z (cyclotomic k) (cyclotomic_monic k entry) vanishes k e (x_sum_vanishes k entry e apart);
  cancel = cancels;
}
