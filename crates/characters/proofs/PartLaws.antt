-- From places to elements.
use Rattle.characters.proofs.Names.{◌≡◌, Bool, true, false, sym, ◌∙◌, ap, subst, ap₂, CommRing, pick, Finite, equals, total, Group, pick_off, op_cancel_left, total_ext, total_exchange, total_pick, inv_unique, IsPart, IsSubgroup, equals_false}
use Rattle.characters.proofs.SettingLaws.{equals_both, pick_cases, total_none}

module _ {G K : Type 0} (inside : G → Bool) (element : K → G) (I : IsPart inside element) where
  -- what holds at every place holds at every element within
  pub at_elements : (holds : G → Type 0) → ((p : K) → holds (element p)) → (x : G) → inside x ≡ true → holds x
  at_elements holds at x h = let found = I.found x h in subst holds found.1 (at found.0)

  -- places are one where their elements are
  pub equals_at_places : (F : Finite G) (E : Finite K) (p r : K) → equals E p r ≡ equals F (element p) (element r)
  equals_at_places F E p r = equals_both E F p r _ _ (ap element) (I.injective p r)

  -- a total over the places is one over the elements that pass the test
  pub total_places : {A : Type 0} (R : CommRing A) (F : Finite G) (E : Finite K) (f : G → A) →
      total R E (λ p. f (element p)) ≡ total R F (λ x. pick R (inside x) (f x))
  total_places {A} R F E f =
      total_ext R E _ (λ p. total R F (λ x. pick R (equals F x (element p)) (f x))) (λ p. sym (total_pick R F (element p) f))
      ∙ total_exchange R E F (λ p x. pick R (equals F x (element p)) (f x))
      ∙ total_ext R F _ _ (λ x. pick_cases R (inside x) _ (f x) (here x) (outside x))
    where
      here : (x : G) → inside x ≡ true → total R E (λ p. pick R (equals F x (element p)) (f x)) ≡ f x
      here x h =
          let found = I.found x h in
          total_ext R E _ (λ p. pick R (equals E p found.0) (f x))
          (λ p. ap (λ b. pick R b (f x))
          (equals_both F E x (element p) p found.0 (λ e. I.injective p found.0 (sym e ∙ sym found.1)) (λ e. sym found.1 ∙ ap element (sym e))))
          ∙ total_pick R E found.0 (λ p. f x)

      outside : (x : G) → inside x ≡ false → total R E (λ p. pick R (equals F x (element p)) (f x)) ≡ R.nought
      outside x h =
          total_none R E _ (λ p. pick_off R _ (f x) (equals_false F x (element p)
          (λ e. absurd (let wrong : true ≡ false = sym (I.within p) ∙ ap inside (sym e) ∙ h in cc))))

module _ {G K : Type 0} (P : Group G) (inside : G → Bool) (Q : Group K) (element : K → G) (I : IsSubgroup P inside Q element) where
  pub element_one : element Q.one ≡ P.one
  element_one =
      op_cancel_left P (element Q.one) (element Q.one) P.one
      (sym (I.respects Q.one Q.one) ∙ ap element (Q.op_one Q.one) ∙ sym (P.op_one (element Q.one)))

  pub element_inv : (p : K) → element (Q.inv p) ≡ P.inv (element p)
  element_inv p = inv_unique P (element p) (element (Q.inv p)) (sym (I.respects p (Q.inv p)) ∙ ap element (Q.op_inv p) ∙ element_one)

  -- the place of p^-1 r
  pub element_quotient : (p r : K) → element (Q.op (Q.inv p) r) ≡ P.op (P.inv (element p)) (element r)
  element_quotient p r = I.respects (Q.inv p) r ∙ ap (λ x. P.op x (element r)) (element_inv p)

  -- the place of c p c^-1
  pub element_conjugate : (c p : K) → element (Q.op (Q.op c p) (Q.inv c)) ≡ P.op (P.op (element c) (element p)) (P.inv (element c))
  element_conjugate c p = I.respects (Q.op c p) (Q.inv c) ∙ ap₂ P.op (I.respects c p) (element_inv c)
