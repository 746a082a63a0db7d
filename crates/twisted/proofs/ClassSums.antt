-- A class sum, written place by place as its conjugates are met.
use Rattle.twisted.proofs.Names.{◌≡◌, ℕ, ◌+◌, ◌%◌, ◌<◌, Bool, true, false, cond, nat_eq, Option, Some, None, List, length, refl, sym, ◌∙◌, ap, arith, add-one, eqb-true, option_map_or, set, first, option_or, first-suc, first-zero, CommRing, RootOfUnity, conjugate, least_passing, conjugate_below, TwistedSubgroup, size, IsTwist, kappa, is_regular, coefficient, root, IsCentral, class_sum}
use Rattle.twisted.proofs.Coefficients.{coefficient-set}
use Rattle.twisted.proofs.PhaseLaws.{kappa_of_conjugate}
use Rattle.twisted.proofs.AlgebraLaws.{central_exactly, class_sum_central}

module _ {A : Type 0} (R : CommRing A) {m : ℕ} (U : RootOfUnity R m) (s : TwistedSubgroup) (p : ℕ) where
  -- the class sum of p at y, as far as the elements below i carry p
  abbrev pub partial_sum : ℕ → ℕ → A
  partial_sum i y = option_map_or (λ c. root R U s (kappa s c p)) (first i (λ c. cond (nat_eq (conjugate s.group c p) y) (Some c) None)) R.nought

  -- the phase of the place that is found
  abbrev found : Option ℕ → A
  found o = option_map_or (λ c. root R U s (kappa s c p)) o R.nought

  pub partial_sum-zero : (y : ℕ) → partial_sum 0 y ≡ R.nought
  partial_sum-zero y = ap found (first-zero (λ c. cond (nat_eq (conjugate s.group c p) y) (Some c) None))

  module _ (twist : IsTwist s) (p_below : p < size s) (regular : is_regular s p ≡ true) where
    partial_sum-more : (i y : ℕ) → i < size s → partial_sum (i + 1) y ≡ cond (nat_eq (conjugate s.group i p) y) (root R U s (kappa s i p)) (partial_sum i y)
    partial_sum-more i y below = rw (add-one, first-suc i carried) (by (first i carried) (nat_eq (conjugate s.group i p) y) refl refl)
      where
        carried : ℕ → Option ℕ
        carried c = cond (nat_eq (conjugate s.group c p) y) (Some c) None

        by : (o : Option ℕ) (b : Bool) → first i carried ≡ o → nat_eq (conjugate s.group i p) y ≡ b
            → found (option_or o (cond b (Some i) None)) ≡ cond b (root R U s (kappa s i p)) (found o)
        by None true e same = refl
        by None false e same = refl
        by (Some k) false e same = refl
        by (Some k) true e same =
            let least = least_passing i (λ c. nat_eq (conjugate s.group c p) y) k e in
            let k_below : k < i = least.below in
            ap (root R U s)
            (kappa_of_conjugate s twist k i p (omega arith) below p_below regular (eqb-true _ _ least.passes ∙ sym (eqb-true _ _ same)))

    -- one more conjugate is met
    pub partial_sums_step : {E : Type 0} (of : E → A) (xs : List E) (i q : ℕ) (v : E) → i < size s → q < length xs → q ≡ conjugate s.group i p → of v ≡ root R U s (kappa s i p)
        → ((y : ℕ) → y < size s → coefficient of R.nought xs y ≡ partial_sum i y)
        → (y : ℕ) → y < size s → coefficient of R.nought (set xs q v) y ≡ partial_sum (i + 1) y
    partial_sums_step of xs i q v i_below q_below q_is v_is before y y_below =
        coefficient-set of R.nought xs q y v q_below ∙ rw (q_is, v_is, before y y_below) (sym (partial_sum-more i y i_below))

    -- what agrees with the class sum at each place commutes with the whole algebra
    pub same_central : m % s.modulus ≡ 0 → (z : ℕ → A) → ((y : ℕ) → y < size s → z y ≡ class_sum R U s p y) → IsCentral R U s z
    same_central divides z same =
        (central_exactly R U s twist divides z).1
        (λ c x c_below x_below.
        same (conjugate s.group c x) (conjugate_below s.group twist.group c x c_below x_below)
        ∙ (central_exactly R U s twist divides (class_sum R U s p)).0 (class_sum_central R U s twist divides p p_below regular) c x c_below x_below
        ∙ ap (R.mul (root R U s (kappa s c x))) (sym (same x x_below)))
