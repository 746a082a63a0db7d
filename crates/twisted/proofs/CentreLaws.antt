-- The centre of a twisted group algebra over a commutative ring with a root of unity that tells exponents apart: the class sums
-- of the regular classes are a basis of it (textbook).
use Rattle.twisted.proofs.Names.{◌≡◌, ◌≢◌, ℕ, ◌+◌, ◌-◌, ◌*◌, ◌%◌, ◌<◌, Bool, sym, ◌∙◌, ap, arith, ◌⊎◌, inl, inr, zero-mod, eq-eqb, ne_eqb, cases_eq, CommRing, sum_below, pick, Finite, equals, Group, Roots, Same, IsTwoCocycle, twisted_convolution, mul_nought, one_mul, product_rules, sum_ext, sum_nought, sum_pick, pick_of, pick_off, pick_cong, pick_mul, mul_pick, pick_same, mul_sum, inv_op_op, op_inv_op, op_op_inv, op_inv_cancel, convolution_at, same_sym, same_trans, same_add, same_multiple, same_of, same_lin}
use Rattle.std.proofs.Math.Dec.{eqb}
use Rattle.algebra.proofs.TotalLaws.{total_ext, total_pick, equals_true, equals_of}
use Rattle.twisted.proofs.SeparateRoots.{Separates}
use Rattle.twisted.proofs.Carrying.{carry, carry_op, carry_one, carry_back, carry_left, carry_is, carry_of_commuting}
use Rattle.twisted.proofs.ConjugationPhases.{IsConjugationPhase, IsRegular, kappa_composes, kappa_of_one, regular_of_conjugate}

-- u_y: one at y, nought elsewhere
abbrev pub unit_at : {A G : Type 0} → CommRing A → Finite G → G → G → A
unit_at R F y x = pick R (equals F x y) R.one

-- z commutes with every u_c
pub record IsCentral {A G : Type 0} (R : CommRing A) (F : Finite G) (P : Group G) {n : ℕ} (B : Roots R n) (t : G → G → ℕ) (z : G → A) : Type 0 where
  pub commutes : (c v : G) → twisted_convolution R F P B t z (unit_at R F c) v ≡ twisted_convolution R F P B t (unit_at R F c) z v

-- z(c x c^-1) = e(ka(c,x)) z(x)
pub record IsCovariant {A G : Type 0} (R : CommRing A) (P : Group G) {n : ℕ} (B : Roots R n) (k : G → G → ℕ) (z : G → A) : Type 0 where
  pub carries : (c x : G) → z (carry P c x) ≡ R.mul (B.root (k c x)) (z x)

-- s is the class sum of x: ka(c,x) at c x c^-1, nought elsewhere
pub record IsClassSum {A G : Type 0} (R : CommRing A) (P : Group G) {n : ℕ} (B : Roots R n) (k : G → G → ℕ) (x : G) (s : G → A) : Type 0 where
  pub at_conjugates : (c : G) → s (carry P c x) ≡ B.root (k c x)
  pub elsewhere : (y : G) → ((c : G) → carry P c x ≡ y → ⊥) → s y ≡ R.nought

-- something carries x to y, or nothing does
pub record Transporters {G : Type 0} (P : Group G) : Type 0 where
  pub find : (x y : G) → ((c : G) × (carry P c x ≡ y)) ⊎ ((c : G) → carry P c x ≡ y → ⊥)

-- x is regular, or some y that commutes with x shows that it isn't
pub record Regularity {G : Type 0} (P : Group G) (n : ℕ) (t : G → G → ℕ) : Type 0 where
  pub decide : (x : G) → IsRegular P n t x ⊎ ((y : G) × (P.op x y ≡ P.op y x) × (Same n (t x y) (t y x) → ⊥))

-- one element of each regular class, numbered
pub record Representatives {G : Type 0} (P : Group G) (n : ℕ) (t : G → G → ℕ) (count : ℕ) (rep : ℕ → G) : Type 0 where
  pub regular : (i : ℕ) → i < count → IsRegular P n t (rep i)
  pub covers : (y : G) → IsRegular P n t y → (i : ℕ) × (i < count) × ((c : G) × (carry P c (rep i) ≡ y))
  pub apart : (i j : ℕ) → i < count → j < count → (c : G) → carry P c (rep i) ≡ rep j → i ≡ j

around : (n q v : ℕ) → n ≡ q + 1 → q * v + v ≡ v * n
around n q v e = rw e (omega arith)

module _ {A G : Type 0} (R : CommRing A) (F : Finite G) (P : Group G) {n : ℕ} (positive : 0 < n) (B : Roots R n) (t k : G → G → ℕ) (T : IsTwoCocycle P n t) (K : IsConjugationPhase P n t k) where
  -- a root may be cancelled
  pub root_cancel : (v : ℕ) (x y : A) → R.mul (B.root v) x ≡ R.mul (B.root v) y → x ≡ y
  root_cancel v x y h =
      let turn : Same n ((n - 1) * v + v) 0 = same_trans (same_of n (around n (n - 1) v (omega arith))) (same_multiple n v) in
      let inverse : R.mul (B.root ((n - 1) * v)) (B.root v) ≡ R.one = sym (B.root_add ((n - 1) * v) v) ∙ B.root_same ((n - 1) * v + v) 0 turn ∙ B.root_zero in
      back v inverse x ∙ ap (R.mul (B.root ((n - 1) * v))) h ∙ sym (back v inverse y)
    where
      back : (v : ℕ) → R.mul (B.root ((n - 1) * v)) (B.root v) ≡ R.one → (z : A) → z ≡ R.mul (B.root ((n - 1) * v)) (R.mul (B.root v) z)
      back v inverse z = sym (one_mul R z) ∙ ap (λ a. R.mul a z) (sym inverse) ∙ R.mul_assoc (B.root ((n - 1) * v)) (B.root v) z

  -- (z u_c)(v) = e(th(v c^-1, c)) z(v c^-1)
  pub times_unit : (z : G → A) (c v : G) → twisted_convolution R F P B t z (unit_at R F c) v ≡ R.mul (B.root (t (P.op v (P.inv c)) c)) (z (P.op v (P.inv c)))
  times_unit z c v =
      let a : G = P.op v (P.inv c) in
      convolution_at R F P B t z (unit_at R F c) v
      ∙ total_ext R F _ (λ y. pick R (equals F y a) (R.mul (B.root (t y c)) (z y)))
      (λ y.
      let b : Bool = equals F (P.op (P.inv y) v) c in
      ap (R.mul (B.root (t y (P.op (P.inv y) v)))) (mul_pick R b (z y) R.one ∙ ap (pick R b) (R.mul_one (z y)))
      ∙ mul_pick R b (B.root (t y (P.op (P.inv y) v))) (z y)
      ∙ pick_cong R b _ _ (λ e. ap (λ w. R.mul (B.root (t y w)) (z y)) (equals_true F (P.op (P.inv y) v) c e))
      ∙ pick_same R b (equals F y a) (R.mul (B.root (t y c)) (z y))
      (λ e. equals_of F y a (sym (op_op_inv P c y) ∙ ap (λ w. P.op w (P.inv c)) (ap (P.op y) (sym (equals_true F (P.op (P.inv y) v) c e)) ∙ op_inv_op P y v)))
      (λ e. equals_of F (P.op (P.inv y) v) c (ap (P.op (P.inv y)) (sym (op_inv_cancel P c v) ∙ ap (λ w. P.op w c) (sym (equals_true F y a e))) ∙ inv_op_op P y c)))
      ∙ total_pick R F a (λ y. R.mul (B.root (t y c)) (z y))

  -- (u_c z)(v) = e(th(c, c^-1 v)) z(c^-1 v)
  pub unit_times : (z : G → A) (c v : G) → twisted_convolution R F P B t (unit_at R F c) z v ≡ R.mul (B.root (t c (P.op (P.inv c) v))) (z (P.op (P.inv c) v))
  unit_times z c v =
      convolution_at R F P B t (unit_at R F c) z v
      ∙ total_ext R F _ (λ y. pick R (equals F y c) (R.mul (B.root (t y (P.op (P.inv y) v))) (z (P.op (P.inv y) v))))
      (λ y.
      let b : Bool = equals F y c in
      let w : A = z (P.op (P.inv y) v) in
      ap (R.mul (B.root (t y (P.op (P.inv y) v)))) (pick_mul R b R.one w ∙ ap (pick R b) (one_mul R w))
      ∙ mul_pick R b (B.root (t y (P.op (P.inv y) v))) w)
      ∙ total_pick R F c (λ y. R.mul (B.root (t y (P.op (P.inv y) v))) (z (P.op (P.inv y) v)))

  -- the root of th(c,x) in two steps
  split_root : (c x : G) (w : A) → R.mul (B.root (t c x)) w ≡ R.mul (B.root (t (carry P c x) c)) (R.mul (B.root (k c x)) w)
  split_root c x w =
      ap (λ r. R.mul r w) (sym (B.root_same (k c x + t (carry P c x) c) (t c x) (K.difference c x)) ∙ B.root_add (k c x) (t (carry P c x) c))
      ∙ swap (B.root (k c x)) (B.root (t (carry P c x) c)) w
    where
      swap : (a b w : A) → R.mul (R.mul a b) w ≡ R.mul b (R.mul a w)
      swap a b w = simp (product_rules, R)

  -- a central element is covariant
  pub central_carries : (z : G → A) → IsCentral R F P B t z → IsCovariant R P B k z
  central_carries z h = record {
    carries = λ c x.
        let v : G = P.op c x in
        let left : twisted_convolution R F P B t z (unit_at R F c) v ≡ R.mul (B.root (t (carry P c x) c)) (z (carry P c x)) =
        times_unit z c v ∙ ap (λ y. R.mul (B.root (t y c)) (z y)) (sym (carry_is P c x)) in
        let right : twisted_convolution R F P B t (unit_at R F c) z v ≡ R.mul (B.root (t c x)) (z x) =
        unit_times z c v ∙ ap (λ y. R.mul (B.root (t c y)) (z y)) (inv_op_op P c x) in
        root_cancel (t (carry P c x) c) (z (carry P c x)) (R.mul (B.root (k c x)) (z x)) (sym left ∙ h.commutes c v ∙ right ∙ split_root c x (z x));
  }

  -- and a covariant one central
  pub covariant_commutes : (z : G → A) → IsCovariant R P B k z → IsCentral R F P B t z
  covariant_commutes z h = record {
    commutes = λ c v.
        let x : G = P.op (P.inv c) v in
        times_unit z c v ∙ ap (λ y. R.mul (B.root (t y c)) (z y)) (sym (carry_left P c v))
        ∙ ap (R.mul (B.root (t (carry P c x) c))) (h.carries c x) ∙ sym (split_root c x (z x)) ∙ sym (unit_times z c v);
  }

  -- a covariant element is nought where x isn't regular
  pub covariant_vanishes : Separates R B → (z : G → A) → IsCovariant R P B k z → (x c : G) → P.op x c ≡ P.op c x → (Same n (t x c) (t c x) → ⊥) → z x ≡ R.nought
  covariant_vanishes S z h x c e different =
      let fixed : carry P c x ≡ x = carry_of_commuting P c x (sym e) in
      let here : Same n (k c x + t x c) (t c x) = rw fixed at (K.difference c x) in
      S.fixed (k c x) (z x)
      (λ nought. different (same_lin n (t x c) (t c x) _ _ (same_add here (same_sym (nought_same nought))) (omega arith)))
      (sym (h.carries c x) ∙ ap z fixed)
    where
      nought_same : {a : ℕ} → a % n ≡ 0 → Same n a 0
      nought_same e = record { same = e ∙ sym (zero-mod n) }

  -- the class sum of a regular element is covariant
  pub class_sum_carries : Transporters P → (x : G) (s : G → A) → IsRegular P n t x → IsClassSum R P B k x s → IsCovariant R P B k s
  class_sum_carries D x s r h = record { carries = λ d y. by d y (D.find x y) }
    where
      by : (d y : G) → ((c : G) × (carry P c x ≡ y)) ⊎ ((c : G) → carry P c x ≡ y → ⊥) → s (carry P d y) ≡ R.mul (B.root (k d y)) (s y)
      by d y (inl (c, e)) =
          ap (λ w. s (carry P d w)) (sym e) ∙ ap s (sym (carry_op P d c x)) ∙ h.at_conjugates (P.op d c)
          ∙ B.root_same (k (P.op d c) x) (k d (carry P c x) + k c x) (kappa_composes P n t k T K d c x) ∙ B.root_add (k d (carry P c x)) (k c x)
          ∙ ap (λ w. R.mul (B.root (k d w)) (B.root (k c x))) e
          ∙ ap (R.mul (B.root (k d y))) (sym (h.at_conjugates c) ∙ ap s e)
      by d y (inr none) =
          h.elsewhere (carry P d y) (λ c e. none (P.op (P.inv d) c) (carry_op P (P.inv d) c x ∙ ap (carry P (P.inv d)) e ∙ carry_back P d y))
          ∙ sym (mul_nought R (B.root (k d y))) ∙ ap (R.mul (B.root (k d y))) (sym (h.elsewhere y none))

  -- a class sum is one at its element
  class_sum_at : (x : G) (s : G → A) → IsClassSum R P B k x s → s x ≡ R.one
  class_sum_at x s h =
      ap s (sym (carry_one P x)) ∙ h.at_conjugates P.one ∙ B.root_same (k P.one x) 0 (kappa_of_one P n t k T K x) ∙ B.root_zero

  -- sums of covariant elements with constant factors
  pub combination_carries : (count : ℕ) (c : ℕ → A) (s : ℕ → G → A) → ((i : ℕ) → i < count → IsCovariant R P B k (s i))
      → IsCovariant R P B k (λ y. sum_below R count (λ i. R.mul (c i) (s i y)))
  combination_carries count c s each = record {
    carries = λ d x.
        sum_ext R count (λ i. R.mul (c i) (s i (carry P d x))) (λ i. R.mul (B.root (k d x)) (R.mul (c i) (s i x)))
        (λ i below. ap (R.mul (c i)) ((each i below).carries d x) ∙ swap (c i) (B.root (k d x)) (s i x))
        ∙ sym (mul_sum R count (B.root (k d x)) (λ i. R.mul (c i) (s i x)));
  }
    where
      swap : (a b w : A) → R.mul a (R.mul b w) ≡ R.mul b (R.mul a w)
      swap a b w = simp (product_rules, R)

  module _ (count : ℕ) (rep : ℕ → G) (Rep : Representatives P n t count rep) (s : ℕ → G → A) (sums : (i : ℕ) → i < count → IsClassSum R P B k (rep i) (s i)) where
    -- at a conjugate of the representative j only its class sum is there
    one_sum : (f : ℕ → A) (j : ℕ) → j < count → (c : G) → sum_below R count (λ i. R.mul (f i) (s i (carry P c (rep j)))) ≡ R.mul (f j) (B.root (k c (rep j)))
    one_sum f j j_below c =
        sum_ext R count (λ i. R.mul (f i) (s i (carry P c (rep j)))) (λ i. pick R (eqb i j) (R.mul (f j) (B.root (k c (rep j)))))
        (λ i below. term i below (cases_eq i j))
        ∙ sum_pick R count j (λ i. R.mul (f j) (B.root (k c (rep j)))) j_below
      where
        term : (i : ℕ) → i < count → (i ≡ j) ⊎ (i ≢ j) → R.mul (f i) (s i (carry P c (rep j))) ≡ pick R (eqb i j) (R.mul (f j) (B.root (k c (rep j))))
        term i below (inl e) =
            ap (λ h. R.mul (f h) (s h (carry P c (rep j)))) e ∙ ap (R.mul (f j)) ((sums j j_below).at_conjugates c)
            ∙ sym (pick_of R (eqb i j) _ (eq-eqb i j e))
        term i below (inr d) =
            ap (R.mul (f i))
            ((sums i below).elsewhere (carry P c (rep j))
            (λ b e. d (Rep.apart i j below j_below (P.op (P.inv c) b) (carry_op P (P.inv c) b (rep i) ∙ ap (carry P (P.inv c)) e ∙ carry_back P c (rep j)))))
            ∙ mul_nought R (f i) ∙ sym (pick_off R (eqb i j) _ (ne_eqb i j d))

    -- a covariant element is the combination of the class sums with its values at the representatives
    pub covariant_expands : Separates R B → Regularity P n t → (z : G → A) → IsCovariant R P B k z → (y : G) → z y ≡ sum_below R count (λ i. R.mul (z (rep i)) (s i y))
    covariant_expands S D z h y = by (D.decide y)
      where
        by : IsRegular P n t y ⊎ ((c : G) × (P.op y c ≡ P.op c y) × (Same n (t y c) (t c y) → ⊥)) → z y ≡ sum_below R count (λ i. R.mul (z (rep i)) (s i y))
        by (inl regular) =
            let found = Rep.covers y regular in
            let j : ℕ = found.0 in
            let c : G = found.2.0 in
            let e : carry P c (rep j) ≡ y = found.2.1 in
            sym (ap z e) ∙ h.carries c (rep j) ∙ R.mul_comm (B.root (k c (rep j))) (z (rep j))
            ∙ sym (one_sum (λ i. z (rep i)) j found.1 c) ∙ ap (λ w. sum_below R count (λ i. R.mul (z (rep i)) (s i w))) e
        by (inr (c, e, different)) =
            covariant_vanishes S z h y c e different
            ∙ sym (sum_nought R count)
            ∙ sym (sum_ext R count (λ i. R.mul (z (rep i)) (s i y)) (λ i. R.nought)
            (λ i below. ap (R.mul (z (rep i)))
            ((sums i below).elsewhere y
            (λ b g. let regular : IsRegular P n t y = rw g at (regular_of_conjugate P n t k T K b (rep i) (Rep.regular i below)) in different (regular.symmetric c e)))
            ∙ mul_nought R (z (rep i))))

    -- in one way only
    pub coefficients_unique : (z : G → A) (f : ℕ → A) → ((y : G) → z y ≡ sum_below R count (λ i. R.mul (f i) (s i y))) → (j : ℕ) → j < count → f j ≡ z (rep j)
    coefficients_unique z f e j below =
        sym (e (rep j) ∙ sym (ap (λ w. sum_below R count (λ i. R.mul (f i) (s i w))) (carry_one P (rep j))) ∙ one_sum f j below P.one
        ∙ ap (R.mul (f j)) (B.root_same (k P.one (rep j)) 0 (kappa_of_one P n t k T K (rep j)) ∙ B.root_zero) ∙ R.mul_one (f j))
