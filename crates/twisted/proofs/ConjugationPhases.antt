-- The conjugation phase ka(c,x) = th(c,x) - th(c x c^-1, c) of a 2-cocycle th, modulo n (textbook).
use Rattle.twisted.proofs.Names.{◌≡◌, ℕ, ◌+◌, sym, ◌∙◌, ap, arith, Group, Same, IsTwoCocycle, same_sym, same_add, same_lin, op_inv_op}
use Rattle.twisted.proofs.Carrying.{carry, carry_op, carry_one, carry_move, carry_back, carry_of_commuting, commuting_of_carry}

-- k is the conjugation phase of t: what th(c x c^-1, c) falls short of th(c,x)
pub record IsConjugationPhase {G : Type 0} (P : Group G) (n : ℕ) (t k : G → G → ℕ) : Type 0 where
  pub difference : (c x : G) → Same n (k c x + t (carry P c x) c) (t c x)

-- th(x,y) = th(y,x) for every y that commutes with x
pub record IsRegular {G : Type 0} (P : Group G) (n : ℕ) (t : G → G → ℕ) (x : G) : Type 0 where
  pub symmetric : (y : G) → P.op x y ≡ P.op y x → Same n (t x y) (t y x)

module _ {G : Type 0} (P : Group G) (n : ℕ) (t k : G → G → ℕ) (T : IsTwoCocycle P n t) (K : IsConjugationPhase P n t k) where
  -- by a product: ka(dc,x) = ka(d, c x c^-1) + ka(c,x)
  pub kappa_composes : (d c x : G) → Same n (k (P.op d c) x) (k d (carry P c x) + k c x)
  kappa_composes d c x =
      let y : G = carry P c x in
      let w : G = carry P d y in
      let one : Same n (k (P.op d c) x + t w (P.op d c)) (t (P.op d c) x) = rw (← carry_op P d c x) (K.difference (P.op d c) x) in
      let two : Same n (k d y + t w d) (t d y) = K.difference d y in
      let three : Same n (k c x + t y c) (t c x) = K.difference c x in
      let four : Same n (t d c + t (P.op d c) x) (t d (P.op c x) + t c x) = T.law d c x in
      let five : Same n (t d y + t (P.op d y) c) (t d (P.op c x) + t y c) = rw (← carry_move P c x) (T.law d y c) in
      let six : Same n (t w d + t (P.op d y) c) (t w (P.op d c) + t d c) = rw (← carry_move P d y) (T.law w d c) in
      same_lin n (k (P.op d c) x) (k d y + k c x) _ _
      (same_add one (same_add (same_sym two) (same_add (same_sym three) (same_add four (same_add (same_sym five) six)))))
      (omega arith)

  -- ka(c,x) = 0 for each c that commutes with a regular x
  pub kappa_of_commuting : (c x : G) → IsRegular P n t x → carry P c x ≡ x → Same n (k c x) 0
  kappa_of_commuting c x r e =
      let here : Same n (k c x + t x c) (t c x) = rw e at (K.difference c x) in
      let same : Same n (t x c) (t c x) = r.symmetric c (sym (commuting_of_carry P c x e)) in
      same_lin n (k c x) 0 _ _ (same_add here (same_sym same)) (omega arith)

  -- and only then is x regular
  pub regular_of_kappa : (x : G) → ((c : G) → carry P c x ≡ x → Same n (k c x) 0) → IsRegular P n t x
  regular_of_kappa x h = record {
    symmetric = λ y e.
        let fixed : carry P y x ≡ x = carry_of_commuting P y x (sym e) in
        let here : Same n (k y x + t x y) (t y x) = rw fixed at (K.difference y x) in
        same_lin n (t x y) (t y x) _ _ (same_add here (same_sym (h y fixed))) (omega arith);
  }

  -- regularity is constant on classes
  pub regular_of_conjugate : (d x : G) → IsRegular P n t x → IsRegular P n t (carry P d x)
  regular_of_conjugate d x r =
      regular_of_kappa (carry P d x)
      (λ y fixed.
      let c : G = P.op (P.inv d) (P.op y d) in
      let back : P.op d c ≡ P.op y d = op_inv_op P d (P.op y d) in
      let carried : carry P d (carry P c x) ≡ carry P d x = sym (carry_op P d c x) ∙ ap (λ z. carry P z x) back ∙ carry_op P y d x ∙ fixed in
      let still : carry P c x ≡ x = sym (carry_back P d (carry P c x)) ∙ ap (carry P (P.inv d)) carried ∙ carry_back P d x in
      let one : Same n (k (P.op d c) x) (k d x + k c x) = rw still at (kappa_composes d c x) in
      let two : Same n (k (P.op d c) x) (k y (carry P d x) + k d x) = rw (← back) at (kappa_composes y d x) in
      let nought : Same n (k c x) 0 = kappa_of_commuting c x r still in
      same_lin n (k y (carry P d x)) 0 _ _ (same_add (same_sym two) (same_add one nought)) (omega arith))

  -- for a regular x the phase depends on the conjugate alone
  pub kappa_depends : (c d x : G) → IsRegular P n t x → carry P c x ≡ carry P d x → Same n (k c x) (k d x)
  kappa_depends c d x r e =
      let b : G = P.op (P.inv d) c in
      let back : P.op d b ≡ c = op_inv_op P d c in
      let still : carry P b x ≡ x = carry_op P (P.inv d) c x ∙ ap (carry P (P.inv d)) e ∙ carry_back P d x in
      let one : Same n (k (P.op d b) x) (k d x + k b x) = rw still at (kappa_composes d b x) in
      let two : Same n (k c x) (k d x + k b x) = rw back at one in
      same_lin n (k c x) (k d x) _ _ (same_add two (kappa_of_commuting b x r still)) (omega arith)

  -- ka(1,x) = 0
  pub kappa_of_one : (x : G) → Same n (k P.one x) 0
  kappa_of_one x =
      let one : Same n (k P.one x + t x P.one) (t P.one x) = rw (carry_one P x) at (K.difference P.one x) in
      same_lin n (k P.one x) 0 _ _ (same_add one (same_add (T.at_one_left x) (same_sym (T.at_one_right x)))) (omega arith)
