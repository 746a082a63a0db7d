-- The orthogonality of full characters at two pairs of elements that commute.
use Rattle.characters.proofs.Names.{◌≡◌, Bool, true, false, sym, ◌∙◌, ap, ap₂, pick, Finite, equals, total, conj, product_rules, mul_nought, nought_mul, pick_off, pick_true, pick_false, mul_pick, group_rules, conj_is, conj_op, conj_of_commuting, total_ext, total_reindex, mul_total, equals_true, equals_false, Setting, Classes, Commuting, commute, transport_root, conjugation_root, Simples, GoodTables, full_character}
use Rattle.characters.proofs.ClassLaws.{carried_back}
use Rattle.characters.proofs.SettingLaws.{commute_true, commuting_conj, conjugation_root_bar, transport_root_composes, transport_root_back, pick_both, fixed_test, carried_test, equals_symmetric, by_equality, total_none}
use Rattle.characters.proofs.CharacterLaws.{full_character_at, in_class_is, product_off}
use Rattle.characters.proofs.OrthogonalityLaws.{representative_of_itself}

module _ {A G : Type 0} (T : Setting A G) where
  -- the product of two picks by one test
  pick_product : (b : Bool) (r q u v : A) →
      T.ring.mul (pick T.ring b (T.ring.mul r u)) (T.involution.bar (pick T.ring b (T.ring.mul q v)))
      ≡ T.ring.mul (T.ring.mul r (T.involution.bar q)) (pick T.ring b (T.ring.mul (T.involution.bar v) u))
  pick_product true r q u v = simp (pick_true, T.involution.bar_mul, product_rules, T.ring)
  pick_product false r q u v = simp (pick_false, nought_mul, mul_nought)

module _ {A G S : Type 0} (T : Setting A G) (C : Classes T.group) (X : Simples T C S) (E : Finite S) (good : GoodTables X E)
    (g x h y : G) (commuting_x : Commuting T g x) (commuting_y : Commuting T h y) where
  -- the representative of g, and the second elements carried along with the first
  abbrev a : G
  a = C.representative g

  abbrev x0 : G
  x0 = conj T.group x (C.carrier g)

  abbrev y0 : G
  y0 = conj T.group y (C.carrier h)

  -- the roots that the two carriers give
  abbrev outer : A
  outer = T.ring.mul (transport_root T g x (C.carrier g)) (T.involution.bar (transport_root T h y (C.carrier h)))

  -- the transport root along s, where s carries the one pair to the other
  abbrev along : G → A
  along s = pick T.ring (equals T.finite h (conj T.group g s)) (pick T.ring (equals T.finite y (conj T.group x s)) (transport_root T g x s))

  -- the conjugate of the conjugation root of c, where c carries y0 to x0 in the centraliser
  abbrev within : G → A
  within c =
      pick T.ring (commute T c a)
      (pick T.ring (equals T.finite (T.group.op (T.group.op c y0) (T.group.inv c)) x0) (T.involution.bar (conjugation_root T a c y0)))

  -- in one class
  module _ (same : C.representative g ≡ C.representative h) where
    carried_g : conj T.group g (C.carrier g) ≡ a
    carried_g = C.carries g

    carried_h : conj T.group h (C.carrier h) ≡ a
    carried_h = C.carries h ∙ sym same

    term : (k : S) →
        T.ring.mul (full_character T C X k g x) (T.involution.bar (full_character T C X k h y))
        ≡ T.ring.mul outer (pick T.ring (equals T.finite a (X.at k)) (T.ring.mul (T.involution.bar (X.value k y0)) (X.value k x0)))
    term k =
        ap₂ (λ u v. T.ring.mul u (T.involution.bar v))
        (full_character_at T C X k g x commuting_x ∙ ap (λ b. pick T.ring b (T.ring.mul (transport_root T g x (C.carrier g)) (X.value k x0))) (in_class_is T C X k g))
        (full_character_at T C X k h y commuting_y
        ∙ ap (λ b. pick T.ring b (T.ring.mul (transport_root T h y (C.carrier h)) (X.value k y0))) (in_class_is T C X k h ∙ ap (λ b. equals T.finite b (X.at k)) (sym same)))
        ∙ pick_product T (equals T.finite a (X.at k)) _ _ _ _

    -- c in the centraliser gives the s that goes along the one carrier, c, and back along the other
    abbrev through : G → G
    through c = T.group.op (T.group.op (C.carrier g) c) (T.group.inv (C.carrier h))

    abbrev back : G → G
    back s = T.group.op (T.group.op (T.group.inv (C.carrier g)) s) (C.carrier h)

    conj_through : (z c : G) → conj T.group z (through c) ≡ conj T.group (conj T.group (conj T.group z (C.carrier g)) c) (T.group.inv (C.carrier h))
    conj_through z c = conj_op T.group z (T.group.op (C.carrier g) c) (T.group.inv (C.carrier h)) ∙ ap (λ b. conj T.group b (T.group.inv (C.carrier h))) (conj_op T.group z (C.carrier g) c)

    first_test : (c : G) → equals T.finite h (conj T.group g (through c)) ≡ commute T c a
    first_test c =
        ap (equals T.finite h) (conj_through g c ∙ ap (λ b. conj T.group (conj T.group b c) (T.group.inv (C.carrier h))) carried_g)
        ∙ sym (carried_test T h (conj T.group a c) (C.carrier h)) ∙ ap (λ b. equals T.finite b (conj T.group a c)) carried_h
        ∙ equals_symmetric T.finite a (conj T.group a c) ∙ fixed_test T a c

    conjugate_forth : (c : G) → T.group.op (T.group.op c y0) (T.group.inv c) ≡ x0 → y0 ≡ conj T.group x0 c
    conjugate_forth c e =
        sym (carried_back T.group c y0) ∙ ap (λ z. conj T.group z c) e

    second_test : (c : G) → equals T.finite y (conj T.group x (through c)) ≡ equals T.finite (T.group.op (T.group.op c y0) (T.group.inv c)) x0
    second_test c =
        let back_by : conj T.group y0 (T.group.inv c) ≡ T.group.op (T.group.op c y0) (T.group.inv c) = simp (conj_is, group_rules, T.group) in
        ap (equals T.finite y) (conj_through x c) ∙ sym (carried_test T y (conj T.group x0 c) (C.carrier h))
        ∙ equals_symmetric T.finite y0 (conj T.group x0 c) ∙ carried_test T x0 y0 c
        ∙ equals_symmetric T.finite x0 (conj T.group y0 (T.group.inv c)) ∙ ap (λ b. equals T.finite b x0) back_by

    commuting_x0 : Commuting T a x0
    commuting_x0 = ap (λ b. T.group.op b x0) (sym carried_g) ∙ commuting_conj T g x (C.carrier g) commuting_x ∙ ap (T.group.op x0) carried_g

    root : (c : G) → Commuting T c a → T.group.op (T.group.op c y0) (T.group.inv c) ≡ x0 →
        transport_root T g x (through c) ≡ T.ring.mul outer (T.involution.bar (conjugation_root T a c y0))
    root c commuting_c conjugates =
        let fixed : conj T.group a c ≡ a = conj_of_commuting T.group a c (sym commuting_c) in
        let rest : transport_root T a x0 (T.group.op c (T.group.inv (C.carrier h))) ≡ T.ring.mul (transport_root T a x0 c) (T.involution.bar (transport_root T h y (C.carrier h))) =
        transport_root_composes T a x0 c (T.group.inv (C.carrier h)) commuting_x0
        ∙ ap (T.ring.mul (transport_root T a x0 c))
        (ap₂ (λ b z. transport_root T b z (T.group.inv (C.carrier h))) (fixed ∙ sym carried_h) (sym (conjugate_forth c conjugates)) ∙ transport_root_back T h y (C.carrier h) commuting_y) in
        let inner : T.involution.bar (conjugation_root T a c y0) ≡ transport_root T a x0 c = conjugation_root_bar T a c y0 ∙ ap (λ z. transport_root T a z c) conjugates in
        ap (transport_root T g x) (T.group.op_assoc (C.carrier g) c (T.group.inv (C.carrier h)))
        ∙ transport_root_composes T g x (C.carrier g) (T.group.op c (T.group.inv (C.carrier h))) commuting_x
        ∙ ap (T.ring.mul (transport_root T g x (C.carrier g))) (ap (λ b. transport_root T b x0 (T.group.op c (T.group.inv (C.carrier h)))) carried_g ∙ rest)
        ∙ sort (transport_root T g x (C.carrier g)) (transport_root T a x0 c) (T.involution.bar (transport_root T h y (C.carrier h)))
        ∙ ap (T.ring.mul outer) (sym inner)
      where
        sort : (u v z : A) → T.ring.mul u (T.ring.mul v z) ≡ T.ring.mul (T.ring.mul u z) v
        sort u v z = simp (product_rules, T.ring)

    along_through : (c : G) → along (through c) ≡ T.ring.mul outer (within c)
    along_through c =
        pick_both T.ring _ _ _ _ (first_test c)
        (λ e. pick_both T.ring _ _ _ _ (second_test c)
        (λ f. root c (commute_true T c a (sym (first_test c) ∙ e)) (equals_true T.finite (T.group.op (T.group.op c y0) (T.group.inv c)) x0 (sym (second_test c) ∙ f))))
        ∙ sym (mul_pick T.ring _ outer _ ∙ ap (pick T.ring (commute T c a)) (mul_pick T.ring _ outer _))

    in_one_class :
        total T.ring E (λ k. T.ring.mul (full_character T C X k g x) (T.involution.bar (full_character T C X k h y))) ≡ total T.ring T.finite along
    in_one_class =
        total_ext T.ring E _ _ term
        ∙ sym (mul_total T.ring E outer _)
        ∙ ap (T.ring.mul outer) ((good.table a (representative_of_itself T C g)).column y0 x0 commuting_y0 (sym commuting_x0))
        ∙ mul_total T.ring T.finite outer within
        ∙ total_ext T.ring T.finite _ _ (λ c. sym (along_through c))
        ∙ total_reindex T.ring T.finite T.finite through back (λ c. simp (group_rules, T.group)) (λ s. simp (group_rules, T.group)) along
      where
        commuting_y0 : Commuting T y0 a
        commuting_y0 = ap (T.group.op y0) (sym carried_h) ∙ commuting_conj T y h (C.carrier h) (sym commuting_y) ∙ ap (λ b. T.group.op b y0) carried_h

  -- the sum over all simples k of the full character at g and x with its conjugate at h and y: the transport roots along the s that carry
  -- the one pair to the other
  pub second_orthogonality :
      total T.ring E (λ k. T.ring.mul (full_character T C X k g x) (T.involution.bar (full_character T C X k h y)))
      ≡ total T.ring T.finite (λ s. pick T.ring (equals T.finite h (conj T.group g s)) (pick T.ring (equals T.finite y (conj T.group x s)) (transport_root T g x s)))
  second_orthogonality =
      by_equality T.finite (C.representative g) (C.representative h) in_one_class
      (λ differ. total_none T.ring E _ (λ k. product_off T C X k k g x h y (λ p q. differ (p ∙ sym q)))
      ∙ sym (total_none T.ring T.finite along
      (λ s. pick_off T.ring _ _ (equals_false T.finite h (conj T.group g s) (λ e. differ (sym (C.constant g s) ∙ ap C.representative (sym e)))))))
