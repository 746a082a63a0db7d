-- Full characters at products with their own element, and at inverses.
use Rattle.characters.proofs.Names.{◌≡◌, Bool, true, false, refl, sym, ◌∙◌, ap, subst, ap₂, IsTorsionFree, pick, multiple, Finite, equals, conj, product_rules, one_mul, mul_nought, mul_left_comm, pick_of, mul_pick, pick_mul, conj_of_commuting, inv_op_op, op_op_inv, op_conj, bar_nought, equals_true, inv_conj, Setting, Classes, Commuting, slant_root, transport_root, conjugation_root, Simples, AreTwists, centraliser_product, GoodTables, in_class, full_character}
use Rattle.characters.proofs.ClassLaws.{carried_back}
use Rattle.characters.proofs.SettingLaws.{commuting_conj, commuting_inv, commuting_product, cancel_unit, slant_root_bar, slant_root_swap, conjugation_root_is, transport_root_bar, transport_root_product, transport_root_of_itself, transport_root_of_one, cancel_pair, pick_both, equals_both}
use Rattle.characters.proofs.AlgebraLaws.{centraliser_product_is}
use Rattle.characters.proofs.CentraliserSums.{centraliser_sum_ext, centraliser_sum_pick}
use Rattle.characters.proofs.CharacterLaws.{full_character_at, full_character_off, in_class_true}
use Rattle.characters.proofs.OrthogonalityLaws.{cancel_multiple, of_whole}
use Rattle.characters.proofs.VerlindeLaws.{trace, IsCarried, carried_times_row}

module _ {A G S : Type 0} (T : Setting A G) (C : Classes T.group) (X : Simples T C S) (E : Finite S) (good : GoodTables X E) (free : IsTorsionFree T.ring) where
  module _ (l : S) where
    abbrev row_bar : S → G → A
    row_bar i y = T.involution.bar (X.value i y)

    -- one at the representative, else nought
    abbrev itself : G → A
    itself y = pick T.ring (equals T.finite y (X.at l)) T.ring.one

    conjugation_root_of_itself : (c : G) → Commuting T c (X.at l) → conjugation_root T (X.at l) c (X.at l) ≡ T.ring.one
    conjugation_root_of_itself c h =
        let a : G = X.at l in
        let fixed : T.group.op (T.group.op c a) (T.group.inv c) ≡ a = ap (λ u. T.group.op u (T.group.inv c)) h ∙ op_op_inv T.group c a in
        let r : A = slant_root T a a c in
        cancel_unit T r (T.involution.bar r) _ _ (slant_root_bar T a a c)
        (T.ring.mul_comm _ _
        ∙ ap (λ y. T.ring.mul (conjugation_root T a c a) (slant_root T a y c)) (sym fixed) ∙ conjugation_root_is T a c a ∙ slant_root_swap T a c h
        ∙ sym (T.ring.mul_one r))

    itself_carried : IsCarried T C X (X.at l) itself
    itself_carried = record {
      carried = λ c x p q.
          let a : G = X.at l in
          let y : G = T.group.op (T.group.op c x) (T.group.inv c) in
          pick_both T.ring (equals T.finite y a) (equals T.finite x a) _ _
          (equals_both T.finite T.finite y a x a
          (λ e. sym (carried_back T.group c x) ∙ ap (λ z. conj T.group z c) e ∙ conj_of_commuting T.group a c (sym p))
          (λ e. ap (λ z. T.group.op (T.group.op c z) (T.group.inv c)) e ∙ ap (λ u. T.group.op u (T.group.inv c)) p ∙ op_op_inv T.group c a))
          (λ e. sym (T.ring.mul_one _
          ∙ ap (conjugation_root T a c) (sym (carried_back T.group c x) ∙ ap (λ z. conj T.group z c) (equals_true T.finite y a e) ∙ conj_of_commuting T.group a c (sym p))
          ∙ conjugation_root_of_itself c p))
          ∙ sym (mul_pick T.ring (equals T.finite x a) (conjugation_root T a c x) T.ring.one);
    }

    trace_of_itself : trace T C X l itself ≡ X.value l (X.at l)
    trace_of_itself =
        centraliser_sum_ext T (X.at l) _ _ (λ y h. pick_mul T.ring (equals T.finite y (X.at l)) T.ring.one (X.value l y) ∙ ap (pick T.ring (equals T.finite y (X.at l))) (one_mul T.ring (X.value l y)))
        ∙ centraliser_sum_pick T (X.at l) (X.at l) (X.value l) refl

    product_with_itself : (x : G) → centraliser_product T (X.at l) itself (row_bar l) (T.group.op (X.at l) x) ≡ T.ring.mul (slant_root T (X.at l) (X.at l) x) (row_bar l x)
    product_with_itself x =
        let a : G = X.at l in
        centraliser_product_is T a itself (row_bar l) (T.group.op a x)
        ∙ centraliser_sum_ext T a _ _
        (λ y h. ap (T.ring.mul (slant_root T a y (T.group.op (T.group.inv y) (T.group.op a x))))
        (pick_mul T.ring (equals T.finite y a) T.ring.one _ ∙ ap (pick T.ring (equals T.finite y a)) (one_mul T.ring _))
        ∙ mul_pick T.ring (equals T.finite y a) _ _)
        ∙ centraliser_sum_pick T a a (λ y. T.ring.mul (slant_root T a y (T.group.op (T.group.inv y) (T.group.op a x))) (row_bar l (T.group.op (T.group.inv y) (T.group.op a x)))) refl
        ∙ ap (λ z. T.ring.mul (slant_root T a a z) (row_bar l z)) (inv_op_op T.group a x)

    -- the row at the product with its own element
    pub row_twist : (twist : S → A) → AreTwists X twist → (x : G) → Commuting T x (X.at l) →
        T.ring.mul (slant_root T (X.at l) (X.at l) x) (X.value l (T.group.op (X.at l) x)) ≡ T.ring.mul (twist l) (X.value l x)
    row_twist twist twists x h =
        let a : G = X.at l in
        let r : A = slant_root T a a x in
        let t : A = twist l in
        let v : A = X.value l x in
        let u : A = X.value l (T.group.op a x) in
        let bars : T.ring.mul r (T.involution.bar v) ≡ T.ring.mul t (T.involution.bar u) =
        cancel_multiple T.ring free (X.degree l) _ _ (X.degree_from_one l)
        (sym (of_whole T.ring (X.degree l) _)
        ∙ ap (T.ring.mul (multiple T.ring (X.degree l) T.ring.one)) (sym (product_with_itself x))
        ∙ carried_times_row T C X E good free l itself itself_carried (T.group.op a x) (commuting_product T a x a refl h)
        ∙ ap (λ z. T.ring.mul z (T.involution.bar u)) (trace_of_itself ∙ twists.at_itself l ∙ ap (T.ring.mul t) (X.degree_is l))
        ∙ sort t (multiple T.ring (X.degree l) T.ring.one) (T.involution.bar u)
        ∙ of_whole T.ring (X.degree l) _) in
        let plain : T.ring.mul (T.involution.bar r) v ≡ T.ring.mul (T.involution.bar t) u =
        ap (T.ring.mul (T.involution.bar r)) (sym (T.involution.bar_bar v)) ∙ sym (T.involution.bar_mul r (T.involution.bar v)) ∙ ap T.involution.bar bars
        ∙ T.involution.bar_mul t (T.involution.bar u) ∙ ap (T.ring.mul (T.involution.bar t)) (T.involution.bar_bar u) in
        sym (ap (λ z. T.ring.mul z (T.ring.mul (T.involution.bar t) u)) (T.ring.mul_comm r t) ∙ cancel_pair T t (T.involution.bar t) r u (twists.unit l)) ∙ ap (λ z. T.ring.mul (T.ring.mul r t) z) (sym plain) ∙ cancel_pair T r (T.involution.bar r) t v (slant_root_bar T a a x)
      where
        sort : (t d u : A) → T.ring.mul (T.ring.mul t d) u ≡ T.ring.mul d (T.ring.mul t u)
        sort t d u = simp (product_rules, T.ring)

  -- the full character at the product with its own element: the twist
  pub twist_acts : (twist : S → A) → AreTwists X twist → (l : S) (g x : G) → Commuting T g x →
      T.ring.mul (slant_root T g g x) (full_character T C X l g (T.group.op g x)) ≡ T.ring.mul (twist l) (full_character T C X l g x)
  twist_acts twist twists l g x h = by (in_class T C X l g) refl
    where
      by : (b : Bool) → in_class T C X l g ≡ b → T.ring.mul (slant_root T g g x) (full_character T C X l g (T.group.op g x)) ≡ T.ring.mul (twist l) (full_character T C X l g x)
      by true e =
          let k : G = C.carrier g in
          let x0 : G = conj T.group x k in
          let a : G = X.at l in
          let carried : conj T.group g k ≡ a = C.carries g ∙ in_class_true T C X l g e in
          let product_commutes : Commuting T g (T.group.op g x) = sym (commuting_product T g x g refl (sym h)) in
          let here : full_character T C X l g (T.group.op g x) ≡ T.ring.mul (transport_root T g (T.group.op g x) k) (X.value l (T.group.op a x0)) =
          full_character_at T C X l g (T.group.op g x) product_commutes ∙ pick_of T.ring _ _ e
          ∙ ap (λ z. T.ring.mul (transport_root T g (T.group.op g x) k) (X.value l z)) (op_conj T.group g x k ∙ ap (λ b. T.group.op b x0) carried) in
          let there : full_character T C X l g x ≡ T.ring.mul (transport_root T g x k) (X.value l x0) = full_character_at T C X l g x h ∙ pick_of T.ring _ _ e in
          let roots : T.ring.mul (slant_root T g g x) (transport_root T g (T.group.op g x) k) ≡ T.ring.mul (transport_root T g x k) (slant_root T a a x0) =
          transport_root_product T g g x k refl (sym h)
          ∙ ap₂ T.ring.mul (ap (λ u. T.ring.mul u (transport_root T g x k)) (transport_root_of_itself T g k) ∙ one_mul T.ring _) (ap (λ b. slant_root T b b x0) carried) in
          ap (T.ring.mul (slant_root T g g x)) here
          ∙ sym (T.ring.mul_assoc _ _ _) ∙ ap (λ u. T.ring.mul u (X.value l (T.group.op a x0))) roots ∙ T.ring.mul_assoc _ _ _
          ∙ ap (T.ring.mul (transport_root T g x k)) (row_twist l twist twists x0 (subst (λ b. Commuting T x0 b) carried (commuting_conj T x g k (sym h))))
          ∙ mul_left_comm T.ring (transport_root T g x k) (twist l) (X.value l x0)
          ∙ ap (T.ring.mul (twist l)) (sym there)
      by false e =
          ap (T.ring.mul (slant_root T g g x)) (full_character_off T C X l g (T.group.op g x) e) ∙ mul_nought T.ring _
          ∙ sym (ap (T.ring.mul (twist l)) (full_character_off T C X l g x e) ∙ mul_nought T.ring _)

  -- the full character at an inverse
  pub inverse_argument : (l : S) (g x : G) → Commuting T g x →
      full_character T C X l g (T.group.inv x) ≡ T.ring.mul (slant_root T g x (T.group.inv x)) (T.involution.bar (full_character T C X l g x))
  inverse_argument l g x h = by (in_class T C X l g) refl
    where
      by : (b : Bool) → in_class T C X l g ≡ b → full_character T C X l g (T.group.inv x) ≡ T.ring.mul (slant_root T g x (T.group.inv x)) (T.involution.bar (full_character T C X l g x))
      by true e =
          let k : G = C.carrier g in
          let x0 : G = conj T.group x k in
          let a : G = X.at l in
          let carried : conj T.group g k ≡ a = C.carries g ∙ in_class_true T C X l g e in
          let inverse_commutes : Commuting T (T.group.inv x) g = commuting_inv T x g (sym h) in
          let r : A = transport_root T g x k in
          let s : A = transport_root T g (T.group.inv x) k in
          let w : A = slant_root T a x0 (T.group.inv x0) in
          let v : A = T.involution.bar (X.value l x0) in
          let here : full_character T C X l g (T.group.inv x) ≡ T.ring.mul s (T.ring.mul w v) =
          full_character_at T C X l g (T.group.inv x) (sym inverse_commutes) ∙ pick_of T.ring _ _ e
          ∙ ap (T.ring.mul s)
          (ap (X.value l) (inv_conj T.group x k)
          ∙ (good.table a (X.at_representative l)).unitary l x0 refl (subst (λ b. Commuting T x0 b) carried (commuting_conj T x g k (sym h)))) in
          let there : T.involution.bar (full_character T C X l g x) ≡ T.ring.mul (T.involution.bar r) v =
          ap T.involution.bar (full_character_at T C X l g x h ∙ pick_of T.ring _ _ e) ∙ T.involution.bar_mul r (X.value l x0) in
          let roots : slant_root T g x (T.group.inv x) ≡ T.ring.mul (T.ring.mul r s) w =
          sym (T.ring.mul_one _) ∙ ap (T.ring.mul (slant_root T g x (T.group.inv x))) (sym (ap (λ z. transport_root T g z k) (T.group.op_inv x) ∙ transport_root_of_one T g k))
          ∙ transport_root_product T g x (T.group.inv x) k (sym h) inverse_commutes
          ∙ ap₂ (λ b z. T.ring.mul (T.ring.mul r s) (slant_root T b x0 z)) carried (inv_conj T.group x k) in
          here ∙ sym (ap₂ T.ring.mul roots there ∙ (ap (λ z. T.ring.mul z (T.ring.mul (T.involution.bar r) v)) (T.ring.mul_assoc r s w) ∙ cancel_pair T r (T.involution.bar r) (T.ring.mul s w) v (transport_root_bar T g x k) ∙ T.ring.mul_assoc s w v))
      by false e =
          full_character_off T C X l g (T.group.inv x) e
          ∙ sym (ap (T.ring.mul (slant_root T g x (T.group.inv x))) (ap T.involution.bar (full_character_off T C X l g x e) ∙ bar_nought T.ring T.involution) ∙ mul_nought T.ring _)
