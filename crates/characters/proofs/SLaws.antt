-- The sum of S: its terms at conjugate pairs, its symmetry, and its row at the vacuum.
use Rattle.characters.proofs.Names.{◌≡◌, true, refl, sym, ◌∙◌, ap, subst, ap₂, pick, multiple, equals, total, Finite, conj, one_mul, pick_of, pick_cong, pick_map, multiple_map, conj_inv, one_conj, bar_one, total_ext, equals_true, total_constant, ◌*◌, multiple_multiple, IsPart, Setting, Classes, Commuting, commute, transport_root, Simples, IsVacuum, pair_sum, in_class, full_character, pair_term, s_sum, dimension, pick_mul}
use Rattle.characters.proofs.PartLaws.{total_places}
use Rattle.characters.proofs.SettingLaws.{commute_of, transport_roots_inverse, transport_root_of_one, transport_root_at_one, cancel_pair, one_commutes, commutes_one, equals_both}
use Rattle.characters.proofs.PairLaws.{pair_sum_ext, pair_sum_swap, pair_sum_at_one}
use Rattle.characters.proofs.CharacterLaws.{full_character_is, covariance}

module _ {A G S : Type 0} (T : Setting A G) (C : Classes T.group) (X : Simples T C S) where
  pub pair_term_is : (i j : S) (g h : G) →
      pair_term T C X i j g h ≡ T.ring.mul (T.involution.bar (full_character T C X i g h)) (T.involution.bar (full_character T C X j h g))
  unfolding pair_term
  pair_term_is i j g h = refl

  pub s_sum_is : (i j : S) → s_sum T C X i j ≡ pair_sum T (pair_term T C X i j)
  unfolding s_sum
  s_sum_is i j = refl

  pub dimension_is : (i : S) → dimension T C X i ≡ total T.ring T.finite (λ g. pick T.ring (in_class T C X i g) (X.value i T.group.one))
  unfolding dimension
  dimension_is i = refl

  pub pair_term_bar : (i j : S) (g h : G) → pair_term T C X i j g h ≡ T.involution.bar (T.ring.mul (full_character T C X i g h) (full_character T C X j h g))
  pair_term_bar i j g h = pair_term_is i j g h ∙ sym (T.involution.bar_mul (full_character T C X i g h) (full_character T C X j h g))

  -- the products of full characters of which S is made are the same at conjugate pairs
  pub pair_product_invariant : (i j : S) (g h c : G) → Commuting T g h →
      T.ring.mul (full_character T C X i g h) (full_character T C X j h g)
      ≡ T.ring.mul (full_character T C X i (conj T.group g c) (conj T.group h c)) (full_character T C X j (conj T.group h c) (conj T.group g c))
  pair_product_invariant i j g h c commuting =
      ap₂ T.ring.mul (covariance T C X i g h c commuting) (covariance T C X j h g c (sym commuting))
      ∙ cancel_pair T (transport_root T g h c) (transport_root T h g c) _ _ (transport_roots_inverse T g h c commuting)

  -- so are the terms of S
  pub pair_term_invariant : (i j : S) (g h c : G) → Commuting T g h → pair_term T C X i j (conj T.group g c) (conj T.group h c) ≡ pair_term T C X i j g h
  pair_term_invariant i j g h c commuting =
      pair_term_bar i j (conj T.group g c) (conj T.group h c) ∙ ap T.involution.bar (sym (pair_product_invariant i j g h c commuting)) ∙ sym (pair_term_bar i j g h)

  pub s_sum_symmetric : (i j : S) → s_sum T C X i j ≡ s_sum T C X j i
  s_sum_symmetric i j =
      s_sum_is i j ∙ pair_sum_swap T (pair_term T C X i j)
      ∙ pair_sum_ext T _ _ (λ h g commuting. pair_term_is i j g h ∙ T.ring.mul_comm _ _ ∙ sym (pair_term_is j i h g))
      ∙ sym (s_sum_is j i)

  -- the full character at the identity: the degree on the class
  pub full_character_at_one : (i : S) (g : G) → full_character T C X i g T.group.one ≡ pick T.ring (in_class T C X i g) (X.value i T.group.one)
  full_character_at_one i g =
      full_character_is T C X i g T.group.one
      ∙ ap (pick T.ring (in_class T C X i g))
      (pick_of T.ring _ _ (commute_of T g T.group.one (commutes_one T g))
      ∙ ap₂ T.ring.mul (transport_root_of_one T g (C.carrier g)) (ap (X.value i) (one_conj T.group (C.carrier g)))
      ∙ one_mul T.ring (X.value i T.group.one))

  -- degrees and dimensions are their own conjugates
  pub degree_bar : (i : S) → T.involution.bar (X.value i T.group.one) ≡ X.value i T.group.one
  degree_bar i =
      ap T.involution.bar (X.degree_is i) ∙ multiple_map T.ring T.ring T.involution.bar T.involution.bar_add (X.degree i) T.ring.one
      ∙ ap (multiple T.ring (X.degree i)) (bar_one T.ring T.involution) ∙ sym (X.degree_is i)

  -- the class of the vacuum holds the identity alone
  pub vacuum_class : (v : S) → IsVacuum X v → (g : G) → in_class T C X v g ≡ equals T.finite g T.group.one
  unfolding in_class
  vacuum_class v V g =
      equals_both T.finite T.finite _ _ _ _
      (λ e. sym (conj_inv T.group g (C.carrier g)) ∙ ap (λ z. conj T.group z (T.group.inv (C.carrier g))) (C.carries g ∙ e ∙ V.at_one) ∙ one_conj T.group (T.group.inv (C.carrier g)))
      (λ e. ap C.representative (e ∙ sym V.at_one) ∙ X.at_representative v)

  -- the full character of the vacuum: one at the identity and any element, else nought
  pub full_character_of_vacuum : (v : S) → IsVacuum X v → (g x : G) → full_character T C X v g x ≡ pick T.ring (equals T.finite g T.group.one) T.ring.one
  full_character_of_vacuum v V g x =
      full_character_is T C X v g x ∙ ap₂ (pick T.ring) (vacuum_class v V g) refl
      ∙ pick_cong T.ring (equals T.finite g T.group.one) _ _
      (λ e. let at_one : g ≡ T.group.one = equals_true T.finite g T.group.one e in
      pick_of T.ring _ _ (subst (λ z. commute T z x ≡ true) (sym at_one) (commute_of T T.group.one x (one_commutes T x)))
      ∙ ap₂ T.ring.mul (ap (λ z. transport_root T z x (C.carrier g)) at_one ∙ transport_root_at_one T x (C.carrier g)) (V.values_one (conj T.group x (C.carrier g)))
      ∙ T.ring.mul_one T.ring.one)

  -- the row of the vacuum: dimensions
  pub s_sum_of_vacuum : (v j : S) → IsVacuum X v → s_sum T C X v j ≡ dimension T C X j
  s_sum_of_vacuum v j V =
      s_sum_is v j ∙ pair_sum_swap T _
      ∙ pair_sum_ext T _ _
      (λ h g c. pair_term_is v j g h ∙ ap (λ z. T.ring.mul z (T.involution.bar (full_character T C X j h g))) (bar_of_vacuum g h)
      ∙ pick_mul T.ring _ _ _ ∙ ap (pick T.ring (equals T.finite g T.group.one)) (one_mul T.ring _))
      ∙ pair_sum_at_one T (λ h g. T.involution.bar (full_character T C X j h g))
      ∙ total_ext T.ring T.finite _ _
      (λ h. ap T.involution.bar (full_character_at_one j h) ∙ pick_map T.ring T.ring T.involution.bar T.involution.bar_add _ _ ∙ ap (pick T.ring (in_class T C X j h)) (degree_bar j))
      ∙ sym (dimension_is j)
    where
      bar_of_vacuum : (g h : G) → T.involution.bar (full_character T C X v g h) ≡ pick T.ring (equals T.finite g T.group.one) T.ring.one
      bar_of_vacuum g h =
          ap T.involution.bar (full_character_of_vacuum v V g h) ∙ pick_map T.ring T.ring T.involution.bar T.involution.bar_add _ _
          ∙ ap (pick T.ring (equals T.finite g T.group.one)) (bar_one T.ring T.involution)

-- the dimension as a whole number: the members of the class are numbered by places
module _ {A G S K : Type 0} (T : Setting A G) (C : Classes T.group) (X : Simples T C S) (i : S) (E : Finite K) (member : K → G) (part : IsPart (in_class T C X i) member) where
  pub dimension_of_class : dimension T C X i ≡ multiple T.ring (E.size * X.degree i) T.ring.one
  dimension_of_class =
      dimension_is T C X i
      ∙ sym (total_places (in_class T C X i) member part T.ring T.finite E (λ g. X.value i T.group.one))
      ∙ total_constant T.ring E (X.value i T.group.one)
      ∙ ap (multiple T.ring E.size) (X.degree_is i) ∙ multiple_multiple T.ring E.size (X.degree i) T.ring.one
