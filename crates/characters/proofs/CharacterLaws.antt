-- Full characters do not depend on the carrier, and are covariant.
use Rattle.characters.proofs.Names.{◌≡◌, Bool, true, false, refl, sym, ◌∙◌, ap, subst, ap₂, pick, equals, conj, mul_nought, pick_of, pick_off, group_rules, conj_is, conj_op, conj_of_commuting, commuting_of_conj, op_inv_op, equals_true, equals_of, Setting, Classes, Commuting, commute, transport_root, conjugation_root, Simples, in_class, full_character, mul_pick, nought_mul, bar_nought}
use Rattle.characters.proofs.SettingLaws.{commute_of, commuting_conj, conjugation_root_bar, transport_root_composes, pick_both}

module _ {A G S : Type 0} (T : Setting A G) (C : Classes T.group) (X : Simples T C S) where
  pub full_character_is : (i : S) (g x : G) →
      full_character T C X i g x
      ≡ pick T.ring (in_class T C X i g) (pick T.ring (commute T g x) (T.ring.mul (transport_root T g x (C.carrier g)) (X.value i (conj T.group x (C.carrier g)))))
  unfolding full_character
  full_character_is i g x = refl

  pub in_class_is : (i : S) (g : G) → in_class T C X i g ≡ equals T.finite (C.representative g) (X.at i)
  unfolding in_class
  in_class_is i g = refl

  -- at a pair that commutes
  pub full_character_at : (i : S) (g x : G) → Commuting T g x →
      full_character T C X i g x ≡ pick T.ring (in_class T C X i g) (T.ring.mul (transport_root T g x (C.carrier g)) (X.value i (conj T.group x (C.carrier g))))
  full_character_at i g x commuting = full_character_is i g x ∙ ap (pick T.ring (in_class T C X i g)) (pick_of T.ring _ _ (commute_of T g x commuting))

  pub in_class_true : (i : S) (g : G) → in_class T C X i g ≡ true → C.representative g ≡ X.at i
  unfolding in_class
  in_class_true i g h = equals_true T.finite (C.representative g) (X.at i) h

  pub in_class_of : (i : S) (g : G) → C.representative g ≡ X.at i → in_class T C X i g ≡ true
  unfolding in_class
  in_class_of i g h = equals_of T.finite (C.representative g) (X.at i) h

  pub in_class_conj : (i : S) (g c : G) → in_class T C X i (conj T.group g c) ≡ in_class T C X i g
  unfolding in_class
  in_class_conj i g c = simp (C.constant g c)

  -- nought out of the class, and where the two do not commute
  pub full_character_off : (i : S) (g x : G) → in_class T C X i g ≡ false → full_character T C X i g x ≡ T.ring.nought
  full_character_off i g x e = full_character_is i g x ∙ pick_off T.ring _ _ e

  -- what is carried to the representative is in its class
  pub in_class_carried : (i : S) (g k : G) → conj T.group g k ≡ X.at i → in_class T C X i g ≡ true
  in_class_carried i g k h = in_class_of i g (sym (C.constant g k) ∙ ap C.representative h ∙ X.at_representative i)

  -- a row at a conjugate: e(ph(x; c)) times the value at c^-1 x c
  pub value_carried : (i : S) (x c : G) → Commuting T x (X.at i) → Commuting T c (X.at i) →
      X.value i x ≡ T.ring.mul (transport_root T (X.at i) x c) (X.value i (conj T.group x c))
  value_carried i x c commuting_x commuting_c =
      let a : G = X.at i in
      let y : G = conj T.group x c in
      let fixed : conj T.group a c ≡ a = conj_of_commuting T.group a c (sym commuting_c) in
      let commuting_y : Commuting T y a = subst (λ b. Commuting T y b) fixed (commuting_conj T x a c commuting_x) in
      let back : T.group.op (T.group.op c y) (T.group.inv c) ≡ x = simp (conj_is, group_rules, T.group) in
      let opposite : T.involution.bar (conjugation_root T a c y) ≡ transport_root T a x c =
      conjugation_root_bar T a c y ∙ ap (λ z. transport_root T a z c) back in
      sym (T.involution.bar_bar (X.value i x))
      ∙ ap T.involution.bar (ap (λ z. T.involution.bar (X.value i z)) (sym back) ∙ X.central i c y commuting_c commuting_y)
      ∙ T.involution.bar_mul (conjugation_root T a c y) (T.involution.bar (X.value i y))
      ∙ ap₂ T.ring.mul opposite (T.involution.bar_bar (X.value i y))

  -- along two elements that carry g to the representative
  pub carriers_agree : (i : S) (g x k l : G) → conj T.group g k ≡ X.at i → conj T.group g l ≡ X.at i → Commuting T g x →
      T.ring.mul (transport_root T g x k) (X.value i (conj T.group x k)) ≡ T.ring.mul (transport_root T g x l) (X.value i (conj T.group x l))
  carriers_agree i g x k l along_k along_l commuting =
      let c : G = T.group.op (T.group.inv k) l in
      let y : G = conj T.group x k in
      let whole : T.group.op k c ≡ l = op_inv_op T.group k l in
      let fixed : conj T.group (X.at i) c ≡ X.at i = ap (λ b. conj T.group b c) (sym along_k) ∙ sym (conj_op T.group g k c) ∙ ap (conj T.group g) whole ∙ along_l in
      let commuting_y : Commuting T y (X.at i) = subst (λ b. Commuting T y b) along_k (commuting_conj T x g k (sym commuting)) in
      let further : transport_root T g x l ≡ T.ring.mul (transport_root T g x k) (transport_root T (X.at i) y c) =
      ap (transport_root T g x) (sym whole) ∙ transport_root_composes T g x k c commuting
      ∙ ap (λ b. T.ring.mul (transport_root T g x k) (transport_root T b y c)) along_k in
      let end : conj T.group y c ≡ conj T.group x l = sym (conj_op T.group x k c) ∙ ap (conj T.group x) whole in
      ap (T.ring.mul (transport_root T g x k)) (value_carried i y c commuting_y (sym (commuting_of_conj T.group (X.at i) c fixed)) ∙ ap (λ z. T.ring.mul (transport_root T (X.at i) y c) (X.value i z)) end)
      ∙ sym (T.ring.mul_assoc (transport_root T g x k) (transport_root T (X.at i) y c) (X.value i (conj T.group x l)))
      ∙ ap (λ r. T.ring.mul r (X.value i (conj T.group x l))) (sym further)

  -- the value is the same along every element that carries g to the representative
  pub transporter_independent : (i : S) (g x k : G) → conj T.group g k ≡ X.at i → Commuting T g x →
      full_character T C X i g x ≡ T.ring.mul (transport_root T g x k) (X.value i (conj T.group x k))
  transporter_independent i g x k carries commuting =
      let inside : in_class T C X i g ≡ true = in_class_carried i g k carries in
      full_character_is i g x ∙ pick_of T.ring _ _ inside ∙ pick_of T.ring _ _ (commute_of T g x commuting)
      ∙ carriers_agree i g x (C.carrier g) k (C.carries g ∙ in_class_true i g inside) carries commuting

  -- at a conjugate pair: the value there times a root
  pub covariance : (i : S) (g x c : G) → Commuting T g x →
      full_character T C X i g x ≡ T.ring.mul (transport_root T g x c) (full_character T C X i (conj T.group g c) (conj T.group x c))
  covariance i g x c commuting =
      full_character_at i g x commuting ∙ pick_both T.ring _ _ _ _ (sym (in_class_conj i g c)) moved ∙ sym (mul_pick T.ring _ (transport_root T g x c) _)
      ∙ ap (T.ring.mul (transport_root T g x c)) (sym (full_character_at i (conj T.group g c) (conj T.group x c) (commuting_conj T g x c commuting)))
    where
      moved : in_class T C X i g ≡ true →
          T.ring.mul (transport_root T g x (C.carrier g)) (X.value i (conj T.group x (C.carrier g)))
          ≡ T.ring.mul (transport_root T g x c)
          (T.ring.mul (transport_root T (conj T.group g c) (conj T.group x c) (C.carrier (conj T.group g c))) (X.value i (conj T.group (conj T.group x c) (C.carrier (conj T.group g c)))))
      moved e =
          let l : G = C.carrier (conj T.group g c) in
          let own : C.representative g ≡ X.at i = in_class_true i g e in
          carriers_agree i g x (C.carrier g) (T.group.op c l) (C.carries g ∙ own) (conj_op T.group g c l ∙ C.carries (conj T.group g c) ∙ C.constant g c ∙ own) commuting
          ∙ ap₂ (λ r y. T.ring.mul r (X.value i y)) (transport_root_composes T g x c l commuting) (conj_op T.group x c l)
          ∙ T.ring.mul_assoc _ _ _

  -- the full character of i at one pair times the conjugate of that of j at another is nought where a class is not met
  pub product_off : (i j : S) (g x h y : G) → (C.representative g ≡ X.at i → C.representative h ≡ X.at j → ⊥) →
      T.ring.mul (full_character T C X i g x) (T.involution.bar (full_character T C X j h y)) ≡ T.ring.nought
  product_off i j g x h y none = by (in_class T C X i g) (in_class T C X j h) refl refl
    where
      by : (b c : Bool) → in_class T C X i g ≡ b → in_class T C X j h ≡ c →
          T.ring.mul (full_character T C X i g x) (T.involution.bar (full_character T C X j h y)) ≡ T.ring.nought
      by true true e f = absurd (none (in_class_true i g e) (in_class_true j h f))
      by false c e f = ap (λ z. T.ring.mul z (T.involution.bar (full_character T C X j h y))) (full_character_off i g x e) ∙ nought_mul T.ring _
      by true false e f =
          ap (λ z. T.ring.mul (full_character T C X i g x) (T.involution.bar z)) (full_character_off j h y f)
          ∙ ap (T.ring.mul (full_character T C X i g x)) (bar_nought T.ring T.involution) ∙ mul_nought T.ring _
