-- The twisted group algebra as a ring, and as a crossed product.
use Rattle.centre_powers.proofs.Names.{◌≡◌, ℕ, zero, suc, ◌+◌, ◌-◌, ◌*◌, ◌<◌, Bool, refl, sym, ◌∙◌, ap, arith, fun_ext, ap₂, CommRing, sum_below, pick, Roots, pick_cong, pick_same, mul_pick, CrossedProduct}
use Rattle.algebra.specs.Totals.{Finite, equals}
use Rattle.algebra.specs.Groups.{Group}
use Rattle.algebra.specs.Congruences.{Same}
use Rattle.algebra.specs.Convolution.{IsTwoCocycle, twisted_convolution}
use Rattle.algebra.proofs.CongruenceLaws.{same_of, same_trans, same_multiple}
use Rattle.algebra.proofs.RingLaws.{one_mul, add_mul, product_rules}
use Rattle.algebra.proofs.SumLaws as sums
use Rattle.algebra.proofs.TotalLaws.{total_sum, total_ext, total_add, mul_total, total_pick, equals_true, equals_of}
use Rattle.algebra.proofs.GroupLaws.{inv_one, op_op_inv, op_inv_cancel}
use Rattle.algebra.proofs.ConvolutionLaws.{convolution_at, convolution_assoc}
use Rattle.twisted.proofs.ConjugationPhases.{IsConjugationPhase}
use Rattle.twisted.proofs.CentreLaws.{unit_at, times_unit, unit_times}
use Rattle.power_theory.specs.Rings.{Ring, ring_sum}
use Rattle.power_theory.proofs.RingSums.{sum_zero, sum_suc}

around : (n v : ℕ) → 0 < n → (n - 1) * v + v ≡ v * n
around n v positive = by (n - 1) n v (omega arith)
  where
    by : (q n v : ℕ) → n ≡ q + 1 → q * v + v ≡ v * n
    by q n v e = rw e (omega arith)

module _ {A G : Type 0} (R : CommRing A) (F : Finite G) (P : Group G) {n : ℕ} (positive : 0 < n) (B : Roots R n) (t k : G → G → ℕ) (T : IsTwoCocycle P n t) (K : IsConjugationPhase P n t k) where
  abbrev pub times : (G → A) → (G → A) → G → A
  times p r = twisted_convolution R F P B t p r

  -- the root of the phase at y, and what is summed
  abbrev pub term : G → G → A → A
  term x y a = R.mul (B.root (t y (P.op (P.inv y) x))) a

  at_one : (v : ℕ) (a : A) → Same n v 0 → R.mul (B.root v) a ≡ a
  at_one v a e = ap (λ r. R.mul r a) (B.root_same v 0 e ∙ B.root_zero) ∙ one_mul R a

  pub times_one : (z : G → A) → times z (unit_at R F P.one) ≡ z
  times_one z = fun_ext (λ v.
      times_unit R F P positive B t k T K z P.one v
      ∙ ap (λ w. R.mul (B.root (t w P.one)) (z w)) (ap (P.op v) (inv_one P) ∙ P.op_one v)
      ∙ at_one (t v P.one) (z v) (T.at_one_right v))

  pub one_times : (z : G → A) → times (unit_at R F P.one) z ≡ z
  one_times z = fun_ext (λ v.
      unit_times R F P positive B t k T K z P.one v
      ∙ ap (λ w. R.mul (B.root (t P.one w)) (z w)) (ap (λ i. P.op i v) (inv_one P) ∙ P.one_op v)
      ∙ at_one (t P.one v) (z v) (T.at_one_left v))

  pub times_add : (p q r : G → A) → times p (λ x. R.add (q x) (r x)) ≡ (λ x. R.add (times p q x) (times p r x))
  times_add p q r = fun_ext (λ x.
      convolution_at R F P B t p (λ x. R.add (q x) (r x)) x
      ∙ total_ext R F _ (λ y. R.add (term x y (R.mul (p y) (q (P.op (P.inv y) x)))) (term x y (R.mul (p y) (r (P.op (P.inv y) x)))))
      (λ y. by (B.root (t y (P.op (P.inv y) x))) (p y) (q (P.op (P.inv y) x)) (r (P.op (P.inv y) x)))
      ∙ total_add R F (λ y. term x y (R.mul (p y) (q (P.op (P.inv y) x)))) (λ y. term x y (R.mul (p y) (r (P.op (P.inv y) x))))
      ∙ sym (ap₂ R.add (convolution_at R F P B t p q x) (convolution_at R F P B t p r x)))
    where
      by : (a b c d : A) → R.mul a (R.mul b (R.add c d)) ≡ R.add (R.mul a (R.mul b c)) (R.mul a (R.mul b d))
      by a b c d = ap (R.mul a) (R.mul_add b c d) ∙ R.mul_add a (R.mul b c) (R.mul b d)

  pub add_times : (p q r : G → A) → times (λ x. R.add (p x) (q x)) r ≡ (λ x. R.add (times p r x) (times q r x))
  add_times p q r = fun_ext (λ x.
      convolution_at R F P B t (λ x. R.add (p x) (q x)) r x
      ∙ total_ext R F _ (λ y. R.add (term x y (R.mul (p y) (r (P.op (P.inv y) x)))) (term x y (R.mul (q y) (r (P.op (P.inv y) x)))))
      (λ y. by (B.root (t y (P.op (P.inv y) x))) (p y) (q y) (r (P.op (P.inv y) x)))
      ∙ total_add R F (λ y. term x y (R.mul (p y) (r (P.op (P.inv y) x)))) (λ y. term x y (R.mul (q y) (r (P.op (P.inv y) x))))
      ∙ sym (ap₂ R.add (convolution_at R F P B t p r x) (convolution_at R F P B t q r x)))
    where
      by : (a b c d : A) → R.mul a (R.mul (R.add b c) d) ≡ R.add (R.mul a (R.mul b d)) (R.mul a (R.mul c d))
      by a b c d = ap (R.mul a) (add_mul R b c d) ∙ R.mul_add a (R.mul b d) (R.mul c d)

  pub scaled_times : (c : A) (p r : G → A) → times (λ x. R.mul c (p x)) r ≡ (λ x. R.mul c (times p r x))
  scaled_times c p r = fun_ext (λ x.
      convolution_at R F P B t (λ x. R.mul c (p x)) r x
      ∙ total_ext R F _ (λ y. R.mul c (term x y (R.mul (p y) (r (P.op (P.inv y) x)))))
      (λ y. by (B.root (t y (P.op (P.inv y) x))) (p y) (r (P.op (P.inv y) x)))
      ∙ sym (mul_total R F c (λ y. term x y (R.mul (p y) (r (P.op (P.inv y) x)))))
      ∙ sym (ap (R.mul c) (convolution_at R F P B t p r x)))
    where
      by : (a b d : A) → R.mul a (R.mul (R.mul c b) d) ≡ R.mul c (R.mul a (R.mul b d))
      by a b d = simp (product_rules, R)

  pub times_scaled : (c : A) (p r : G → A) → times p (λ x. R.mul c (r x)) ≡ (λ x. R.mul c (times p r x))
  times_scaled c p r = fun_ext (λ x.
      convolution_at R F P B t p (λ x. R.mul c (r x)) x
      ∙ total_ext R F _ (λ y. R.mul c (term x y (R.mul (p y) (r (P.op (P.inv y) x)))))
      (λ y. by (B.root (t y (P.op (P.inv y) x))) (p y) (r (P.op (P.inv y) x)))
      ∙ sym (mul_total R F c (λ y. term x y (R.mul (p y) (r (P.op (P.inv y) x)))))
      ∙ sym (ap (R.mul c) (convolution_at R F P B t p r x)))
    where
      by : (a b d : A) → R.mul a (R.mul b (R.mul c d)) ≡ R.mul c (R.mul a (R.mul b d))
      by a b d = simp (product_rules, R)

  -- the twisted group algebra
  abbrev pub convolution_ring : Ring (G → A)
  convolution_ring = record {
    add = λ p r x. R.add (p x) (r x);
    nought = λ x. R.nought;
    neg = λ p x. R.neg (p x);
    mul = times;
    one = unit_at R F P.one;
    add_assoc = λ p q r. fun_ext (λ x. R.add_assoc (p x) (q x) (r x));
    add_comm = λ p r. fun_ext (λ x. R.add_comm (p x) (r x));
    add_nought = λ p. fun_ext (λ x. R.add_nought (p x));
    add_neg = λ p. fun_ext (λ x. R.add_neg (p x));
    mul_assoc = λ p q r. fun_ext (convolution_assoc R F P B t T p q r);
    mul_one = times_one;
    one_mul = one_times;
    mul_add = times_add;
    add_mul = add_times;
  }

  abbrev pub root_inverse : G → G → A
  root_inverse x y = B.root ((n - 1) * t x y)

  pub root_inverts : (x y : G) → R.mul (root_inverse x y) (B.root (t x y)) ≡ R.one
  root_inverts x y =
      sym (B.root_add ((n - 1) * t x y) (t x y))
      ∙ B.root_same ((n - 1) * t x y + t x y) 0 (same_trans (same_of n (around n (t x y) positive)) (same_multiple n (t x y)))
      ∙ B.root_zero

  -- u_x u_y = e(th(x,y)) u_xy
  pub units_multiply : (x y : G) → times (unit_at R F x) (unit_at R F y)
      ≡ (λ v. R.mul (B.root (t x y)) (unit_at R F (P.op x y) v))
  units_multiply x y = fun_ext (λ v.
      let w : G = P.op v (P.inv y) in
      let b : Bool = equals F w x in
      times_unit R F P positive B t k T K (unit_at R F x) y v
      ∙ mul_pick R b (B.root (t w y)) R.one
      ∙ pick_cong R b (R.mul (B.root (t w y)) R.one) (R.mul (B.root (t x y)) R.one) (λ e. ap (λ u. R.mul (B.root (t u y)) R.one) (equals_true F w x e))
      ∙ pick_same R b (equals F v (P.op x y)) (R.mul (B.root (t x y)) R.one)
      (λ e. equals_of F v (P.op x y) (sym (op_inv_cancel P y v) ∙ ap (λ u. P.op u y) (equals_true F w x e)))
      (λ e. equals_of F w x (ap (λ u. P.op u (P.inv y)) (equals_true F v (P.op x y) e) ∙ op_op_inv P y x))
      ∙ sym (mul_pick R (equals F v (P.op x y)) (B.root (t x y)) R.one))

  sum_at : (m : ℕ) (f : ℕ → G → A) (x : G) → ring_sum convolution_ring m f x ≡ sum_below R m (λ i. f i x)
  sum_at zero f x = ap (λ (p : G → A). p x) (sum_zero convolution_ring f) ∙ sym (sums.sum_zero R (λ i. f i x))
  sum_at (suc m) f x =
      ap (λ (p : G → A). p x) (sum_suc convolution_ring m f)
      ∙ ap (λ s. R.add s (f m x)) (sum_at m f x)
      ∙ sym (sums.sum_suc R m (λ i. f i x))

  -- every element is the sum of its numbers times the u_x
  pub units_span : (z : G → A) → z ≡ ring_sum convolution_ring F.size (λ i x. R.mul (z (F.at i)) (unit_at R F (F.at i) x))
  units_span z = fun_ext (λ x. sym
      (sum_at F.size (λ i x. R.mul (z (F.at i)) (unit_at R F (F.at i) x)) x
      ∙ sym (total_sum R F (λ y. R.mul (z y) (unit_at R F y x)))
      ∙ total_ext R F (λ y. R.mul (z y) (unit_at R F y x)) (λ y. pick R (equals F y x) (z y))
      (λ y. mul_pick R (equals F x y) (z y) R.one
      ∙ ap (pick R (equals F x y)) (R.mul_one (z y))
      ∙ pick_same R (equals F x y) (equals F y x) (z y) (λ e. equals_of F y x (sym (equals_true F x y e))) (λ e. equals_of F x y (sym (equals_true F y x e))))
      ∙ total_pick R F x z))

  -- it is a crossed product
  abbrev pub convolution_crossed : CrossedProduct R F P convolution_ring
  convolution_crossed = record {
    scale = λ c z x. R.mul c (z x);
    scale_one = λ z. fun_ext (λ x. one_mul R (z x));
    scale_scale = λ c d z. fun_ext (λ x. sym (R.mul_assoc c d (z x)));
    scale_mul = scaled_times;
    mul_scale = times_scaled;
    unit = unit_at R F;
    unit_one = refl;
    factor = λ x y. B.root (t x y);
    factor_inverse = root_inverse;
    factor_inverts = root_inverts;
    unit_mul = units_multiply;
    coordinate = λ z x. z x;
    coordinate_add = λ p r x. refl;
    spans = units_span;
  }
