-- Verlinde's formula.
use Rattle.characters.proofs.Names.{◌≡◌, ◌≤◌, true, false, refl, sym, ◌∙◌, ap, subst, ap₂, IsTorsionFree, pick, multiple, Finite, equals, total, conj, product_rules, one_mul, mul_nought, mul_left_comm, pick_of, pick_off, pick_nought, pick_cong, mul_pick, pick_mul, pick_swap, multiple_mul, group_rules, conj_inv, conj_of_inv, conj_of_commuting, inv_op_op, total_ext, total_exchange, total_pick, total_reindex, mul_total, total_mul, pick_total, equals_true, equals_of, ◌<◌, arith, conj_one, Setting, Classes, Commuting, commute, slant_root, transport_root, conjugation_root, Simples, group_order, centraliser_sum, centraliser_order, centraliser_product, GoodTables, in_class, full_character, pair_term, s_sum, dimension, tensor_character, fusion_sum, equals_false}
use Rattle.characters.proofs.ClassLaws.{carried_back}
use Rattle.characters.proofs.SettingLaws.{commute_of, commute_true, commuting_conj, commute_conj, commuting_product, inverse_unique, conjugation_root_bar, transport_roots_inverse, transport_root_along_one, coproduct_root_is_slant, equals_symmetric, conjugation_root_unit, pick_both, pick_cases, pick_where_equal, total_none}
use Rattle.characters.proofs.PairLaws.{pair_sum_is, pair_sum_ext, bar_pair_sum}
use Rattle.characters.proofs.AlgebraLaws.{centraliser_product_is}
use Rattle.characters.proofs.CentraliserSums.{centraliser_sum_ext, mul_centraliser_sum, centraliser_sum_mul, total_centraliser_sum, centraliser_sum_exchange, centraliser_sum_pick, centraliser_sum_shift, centraliser_sum_same}
use Rattle.characters.proofs.CharacterLaws.{transporter_independent, covariance, full_character_off, in_class_true}
use Rattle.characters.proofs.SLaws.{pair_term_bar, pair_product_invariant, s_sum_is, dimension_is}
use Rattle.characters.proofs.OrthogonalityLaws.{pick_factor, cancel_multiple, class_equation, group_order_multiple, row_orthogonality, of_whole}
use Rattle.characters.proofs.FusionLaws.{tensor_total, decomposition}

-- the order of the group, and of a centraliser, may be cancelled
module _ {A G : Type 0} (T : Setting A G) (C : Classes T.group) (free : IsTorsionFree T.ring) where
  pub cancel_group_order : (u v : A) → T.ring.mul (group_order T) u ≡ T.ring.mul (group_order T) v → u ≡ v
  cancel_group_order u v e =
      cancel_multiple T.ring free T.finite.size u v some (sym (as_multiple u) ∙ e ∙ as_multiple v)
    where
      some : 1 ≤ T.finite.size
      some = let below : T.finite.index T.group.one < T.finite.size = T.finite.index_below T.group.one in omega arith

      as_multiple : (w : A) → T.ring.mul (group_order T) w ≡ multiple T.ring T.finite.size w
      as_multiple w = ap (λ n. T.ring.mul n w) (group_order_multiple T) ∙ multiple_mul T.ring T.finite.size T.ring.one w ∙ ap (multiple T.ring T.finite.size) (one_mul T.ring w)

  pub cancel_centraliser_order : (a : G) → C.representative a ≡ a → (u v : A) → T.ring.mul (centraliser_order T a) u ≡ T.ring.mul (centraliser_order T a) v → u ≡ v
  cancel_centraliser_order a own u v e =
      cancel_group_order u v
      (ap (λ n. T.ring.mul n u) (sym (class_equation T C a own)) ∙ total_mul T.ring T.finite _ u
      ∙ total_ext T.ring T.finite _ _
      (λ g. pick_mul T.ring (equals T.finite (C.representative g) a) (centraliser_order T a) u
      ∙ ap (pick T.ring (equals T.finite (C.representative g) a)) e
      ∙ sym (pick_mul T.ring (equals T.finite (C.representative g) a) (centraliser_order T a) v))
      ∙ sym (ap (λ n. T.ring.mul n v) (sym (class_equation T C a own)) ∙ total_mul T.ring T.finite _ v))

module _ {A G S : Type 0} (T : Setting A G) (C : Classes T.group) (X : Simples T C S) where
  -- the sum of z with the values of l, over the centraliser
  abbrev pub trace : S → (G → A) → A
  trace l z = centraliser_sum T (X.at l) (λ x. T.ring.mul (z x) (X.value l x))

  -- z is carried by conjugation in the centraliser of a, as the elements are that commute with the whole algebra of a
  pub record IsCarried (a : G) (z : G → A) : Type 0 where
    pub carried : (c x : G) → Commuting T c a → Commuting T x a → z (T.group.op (T.group.op c x) (T.group.inv c)) ≡ T.ring.mul (conjugation_root T a c x) (z x)

  pub conjugate_commutes : (a c x : G) → Commuting T c a → Commuting T x a → Commuting T (T.group.op (T.group.op c x) (T.group.inv c)) a
  conjugate_commutes a c x p q =
      commuting_product T (T.group.op c x) (T.group.inv c) a (commuting_product T c x a p q)
      (sym (ap (λ z. T.group.op z (T.group.inv c)) (moved) ∙ T.group.op_assoc _ _ _ ∙ ap (T.group.op (T.group.inv c)) (ending)))
    where
      moved : a ≡ T.group.op (T.group.inv c) (T.group.op a c)
      moved = sym (ap (T.group.op (T.group.inv c)) (sym p) ∙ inv_op_op T.group c a)

      ending : T.group.op (T.group.op a c) (T.group.inv c) ≡ a
      ending = simp (group_rules, T.group)

  module _ (E : Finite S) (good : GoodTables X E) (a : G) (own : C.representative a ≡ a) where
    -- a carried function is the sum over the rows of a of its traces with the conjugates of the values
    pub carried_by_rows : (z : G → A) → IsCarried a z → (x : G) → Commuting T x a →
        total T.ring E (λ i. pick T.ring (equals T.finite a (X.at i)) (T.ring.mul (trace i z) (T.involution.bar (X.value i x)))) ≡ T.ring.mul (centraliser_order T a) (z x)
    carried_by_rows z central x commuting =
        total_ext T.ring E _ _ term
        ∙ total_centraliser_sum T a E _
        ∙ centraliser_sum_ext T a _ _
        (λ y h. total_ext T.ring E _ _ (λ i. sym (mul_pick T.ring (equals T.finite a (X.at i)) (z y) _))
        ∙ sym (mul_total T.ring E (z y) _)
        ∙ ap (T.ring.mul (z y)) ((good.table a own).column x y commuting h)
        ∙ mul_centraliser_sum T a (z y) _)
        ∙ centraliser_sum_exchange T a _
        ∙ centraliser_sum_ext T a _ _
        (λ c h. centraliser_sum_ext T a _ _
        (λ y k. mul_pick T.ring _ (z y) _ ∙ ap (λ b. pick T.ring b (T.ring.mul (z y) (T.involution.bar (conjugation_root T a c x)))) (equals_symmetric T.finite (T.group.op (T.group.op c x) (T.group.inv c)) y))
        ∙ centraliser_sum_pick T a (T.group.op (T.group.op c x) (T.group.inv c)) (λ y. T.ring.mul (z y) (T.involution.bar (conjugation_root T a c x))) (conjugate_commutes a c x h commuting)
        ∙ back c h)
        ∙ centraliser_sum_same T a (z x)
      where
        back : (c : G) → Commuting T c a → T.ring.mul (z (T.group.op (T.group.op c x) (T.group.inv c))) (T.involution.bar (conjugation_root T a c x)) ≡ z x
        back c h =
            let r : A = conjugation_root T a c x in
            let sorted : T.ring.mul (T.ring.mul r (z x)) (T.involution.bar r) ≡ T.ring.mul (T.ring.mul r (T.involution.bar r)) (z x) = simp (product_rules, T.ring) in
            ap (λ u. T.ring.mul u (T.involution.bar r)) (central.carried c x h commuting) ∙ sorted ∙ ap (λ u. T.ring.mul u (z x)) (conjugation_root_unit T a c x) ∙ one_mul T.ring (z x)

        sort : (u v w : A) → T.ring.mul (T.ring.mul u v) w ≡ T.ring.mul u (T.ring.mul w v)
        sort u v w = simp (product_rules, T.ring)

        term : (i : S) →
            pick T.ring (equals T.finite a (X.at i)) (T.ring.mul (trace i z) (T.involution.bar (X.value i x)))
            ≡ centraliser_sum T a (λ y. pick T.ring (equals T.finite a (X.at i)) (T.ring.mul (z y) (T.ring.mul (T.involution.bar (X.value i x)) (X.value i y))))
        term i =
            pick_cong T.ring (equals T.finite a (X.at i)) _ _
            (λ e. ap (λ b. T.ring.mul (centraliser_sum T b (λ y. T.ring.mul (z y) (X.value i y))) (T.involution.bar (X.value i x))) (sym (equals_true T.finite a (X.at i) e))
            ∙ centraliser_sum_mul T a _ (T.involution.bar (X.value i x))
            ∙ centraliser_sum_ext T a _ _ (λ y h. sort (z y) (X.value i y) (T.involution.bar (X.value i x))))
            ∙ pick_total T.ring T.finite (equals T.finite a (X.at i)) _
            ∙ total_ext T.ring T.finite _ _ (λ y. pick_swap T.ring (equals T.finite a (X.at i)) (commute T y a) _)

  -- the form of two functions on the centraliser of a row l: the trace of their product
  module _ (E : Finite S) (good : GoodTables X E) (free : IsTorsionFree T.ring) (l : S) where
    abbrev pub form : (G → A) → (G → A) → A
    form p r = centraliser_sum T (X.at l) (λ x. centraliser_sum T (X.at l) (λ y. T.ring.mul (T.ring.mul (slant_root T (X.at l) x y) (T.ring.mul (p x) (r y))) (X.value l (T.group.op x y))))

    abbrev order : A
    order = centraliser_order T (X.at l)

    abbrev degree : A
    degree = multiple T.ring (X.degree l) T.ring.one

    form_is_trace : (p r : G → A) → form p r ≡ trace l (centraliser_product T (X.at l) p r)
    form_is_trace p r =
        sym (centraliser_sum_ext T (X.at l) _ _
        (λ z h. ap (λ u. T.ring.mul u (X.value l z)) (centraliser_product_is T (X.at l) p r z) ∙ centraliser_sum_mul T (X.at l) _ (X.value l z))
        ∙ centraliser_sum_exchange T (X.at l) _
        ∙ centraliser_sum_ext T (X.at l) _ _
        (λ y h. sym (centraliser_sum_shift T (X.at l) y _ h)
        ∙ centraliser_sum_ext T (X.at l) _ _
        (λ x k. ap (λ u. T.ring.mul (T.ring.mul (slant_root T (X.at l) y u) (T.ring.mul (p y) (r u))) (X.value l (T.group.op y x))) (inv_op_op T.group y x))))

    form_ext : (p q r s : G → A) → ((x : G) → Commuting T x (X.at l) → p x ≡ q x) → ((x : G) → Commuting T x (X.at l) → r x ≡ s x) → form p r ≡ form q s
    form_ext p q r s e f =
        centraliser_sum_ext T (X.at l) _ _
        (λ x h. centraliser_sum_ext T (X.at l) _ _
        (λ y k. ap₂ (λ u v. T.ring.mul (T.ring.mul (slant_root T (X.at l) x y) (T.ring.mul u v)) (X.value l (T.group.op x y))) (e x h) (f y k)))

    -- a sum in the second argument is taken outside
    form_right : (c : S → A) (p : G → A) (r : S → G → A) → form p (λ x. total T.ring E (λ i. T.ring.mul (c i) (r i x))) ≡ total T.ring E (λ i. T.ring.mul (c i) (form p (r i)))
    form_right c p r =
        sym (total_ext T.ring E _ _
        (λ i. mul_centraliser_sum T (X.at l) (c i) _ ∙ centraliser_sum_ext T (X.at l) _ _ (λ x h. mul_centraliser_sum T (X.at l) (c i) _))
        ∙ total_centraliser_sum T (X.at l) E _
        ∙ centraliser_sum_ext T (X.at l) _ _
        (λ x h. total_centraliser_sum T (X.at l) E _
        ∙ centraliser_sum_ext T (X.at l) _ _
        (λ y k. total_ext T.ring E _ _ (λ i. sort (c i) (slant_root T (X.at l) x y) (p x) (r i y) (X.value l (T.group.op x y)))
        ∙ sym (total_mul T.ring E _ _)
        ∙ sorted _ (slant_root T (X.at l) x y) (p x) (X.value l (T.group.op x y)))))
      where
        sort : (c s p r v : A) → T.ring.mul c (T.ring.mul (T.ring.mul s (T.ring.mul p r)) v) ≡ T.ring.mul (T.ring.mul c r) (T.ring.mul (T.ring.mul s p) v)
        sort c s p r v = simp (product_rules, T.ring)

        sorted : (u s p v : A) → T.ring.mul u (T.ring.mul (T.ring.mul s p) v) ≡ T.ring.mul (T.ring.mul s (T.ring.mul p u)) v
        sorted u s p v = simp (product_rules, T.ring)

    form_scaled : (m : A) (p r : G → A) → form p (λ x. T.ring.mul m (r x)) ≡ T.ring.mul m (form p r)
    form_scaled m p r =
        sym (mul_centraliser_sum T (X.at l) m _
        ∙ centraliser_sum_ext T (X.at l) _ _
        (λ x h. mul_centraliser_sum T (X.at l) m _
        ∙ centraliser_sum_ext T (X.at l) _ _ (λ y k. sort m (slant_root T (X.at l) x y) (p x) (r y) (X.value l (T.group.op x y)))))
      where
        sort : (m s p r v : A) → T.ring.mul m (T.ring.mul (T.ring.mul s (T.ring.mul p r)) v) ≡ T.ring.mul (T.ring.mul s (T.ring.mul p (T.ring.mul m r))) v
        sort m s p r v = simp (product_rules, T.ring)

    -- the conjugates of the values of a row
    abbrev conjugates : S → G → A
    conjugates i x = T.involution.bar (X.value i x)

    -- the part of a function that a row makes
    abbrev pub part : (G → A) → S → A
    part z i = pick T.ring (equals T.finite (X.at l) (X.at i)) (trace i z)

    pub part_at : (z : G → A) → part z l ≡ trace l z
    part_at z = pick_of T.ring _ _ (equals_of T.finite (X.at l) (X.at l) refl)

    pub by_parts : (z : G → A) → IsCarried (X.at l) z → (x : G) → Commuting T x (X.at l) → T.ring.mul order (z x) ≡ total T.ring E (λ i. T.ring.mul (part z i) (conjugates i x))
    by_parts z central x h =
        sym (total_ext T.ring E _ _ (λ i. pick_mul T.ring (equals T.finite (X.at l) (X.at i)) (trace i z) (conjugates i x))
        ∙ carried_by_rows E good (X.at l) (X.at_representative l) z central x h)

    -- products with a sum are taken outside
    product_left : (c : S → A) (p : S → G → A) (r : G → A) (x : G) →
        centraliser_product T (X.at l) (λ y. total T.ring E (λ i. T.ring.mul (c i) (p i y))) r x ≡ total T.ring E (λ i. T.ring.mul (c i) (centraliser_product T (X.at l) (p i) r x))
    product_left c p r x =
        centraliser_product_is T (X.at l) _ r x
        ∙ sym (total_ext T.ring E _ _ (λ i. ap (T.ring.mul (c i)) (centraliser_product_is T (X.at l) (p i) r x) ∙ mul_centraliser_sum T (X.at l) (c i) _)
        ∙ total_centraliser_sum T (X.at l) E _
        ∙ centraliser_sum_ext T (X.at l) _ _
        (λ y h. total_ext T.ring E _ _ (λ i. sort (c i) (slant_root T (X.at l) y (T.group.op (T.group.inv y) x)) (p i y) (r (T.group.op (T.group.inv y) x)))
        ∙ sym (total_mul T.ring E _ _)
        ∙ mul_left_comm T.ring _ (slant_root T (X.at l) y (T.group.op (T.group.inv y) x)) (r (T.group.op (T.group.inv y) x))))
      where
        sort : (c s p r : A) → T.ring.mul c (T.ring.mul s (T.ring.mul p r)) ≡ T.ring.mul (T.ring.mul c p) (T.ring.mul s r)
        sort c s p r = simp (product_rules, T.ring)

    product_ext : (p q r : G → A) (x : G) → ((y : G) → Commuting T y (X.at l) → p y ≡ q y) → centraliser_product T (X.at l) p r x ≡ centraliser_product T (X.at l) q r x
    product_ext p q r x e =
        centraliser_product_is T (X.at l) p r x
        ∙ centraliser_sum_ext T (X.at l) _ _ (λ y h. ap (λ u. T.ring.mul (slant_root T (X.at l) y (T.group.op (T.group.inv y) x)) (T.ring.mul u (r (T.group.op (T.group.inv y) x)))) (e y h))
        ∙ sym (centraliser_product_is T (X.at l) q r x)

    product_scaled : (m : A) (p r : G → A) (x : G) → centraliser_product T (X.at l) (λ y. T.ring.mul m (p y)) r x ≡ T.ring.mul m (centraliser_product T (X.at l) p r x)
    product_scaled m p r x =
        centraliser_product_is T (X.at l) _ r x
        ∙ centraliser_sum_ext T (X.at l) _ _ (λ y h. sort m (slant_root T (X.at l) y (T.group.op (T.group.inv y) x)) (p y) (r (T.group.op (T.group.inv y) x)))
        ∙ sym (ap (T.ring.mul m) (centraliser_product_is T (X.at l) p r x) ∙ mul_centraliser_sum T (X.at l) m _)
      where
        sort : (m s p r : A) → T.ring.mul s (T.ring.mul (T.ring.mul m p) r) ≡ T.ring.mul m (T.ring.mul s (T.ring.mul p r))
        sort m s p r = simp (product_rules, T.ring)

    -- the degree times the product of a row with that of l
    product_of_rows : (i : S) (x : G) → X.at i ≡ X.at l → Commuting T x (X.at l) →
        T.ring.mul (multiple T.ring (X.degree l) T.ring.one) (centraliser_product T (X.at l) (conjugates i) (conjugates l) x) ≡ pick T.ring (equals E i l) (T.ring.mul order (conjugates l x))
    product_of_rows i x same h =
        pick_where_equal T.ring E i l _ _
        (λ e. of_whole T.ring (X.degree l) _
        ∙ ap (λ k. multiple T.ring (X.degree l) (centraliser_product T (X.at l) (conjugates k) (conjugates l) x)) e
        ∙ (good.table (X.at l) (X.at_representative l)).product_self l x refl h)
        (λ apart. ap (T.ring.mul (multiple T.ring (X.degree l) T.ring.one))
        ((good.table (X.at l) (X.at_representative l)).product_other i l x same refl apart h) ∙ mul_nought T.ring _)

    -- the product of a carried function with a row is a multiple of the row
    pub carried_times_row : (z : G → A) → IsCarried (X.at l) z → (x : G) → Commuting T x (X.at l) →
        T.ring.mul (multiple T.ring (X.degree l) T.ring.one) (centraliser_product T (X.at l) z (conjugates l) x) ≡ T.ring.mul (trace l z) (conjugates l x)
    carried_times_row z central x h =
        cancel_centraliser_order T C free (X.at l) (X.at_representative l) _ _
        (mul_left_comm T.ring order (multiple T.ring (X.degree l) T.ring.one) _
        ∙ ap (T.ring.mul (multiple T.ring (X.degree l) T.ring.one))
        (sym (product_scaled order z (conjugates l) x)
        ∙ product_ext _ _ (conjugates l) x (λ y k. by_parts z central y k)
        ∙ product_left (part z) conjugates (conjugates l) x)
        ∙ mul_total T.ring E _ _
        ∙ total_ext T.ring E _ _
        (λ i. mul_left_comm T.ring (multiple T.ring (X.degree l) T.ring.one) (part z i) _
        ∙ pick_factor T.ring (equals T.finite (X.at l) (X.at i)) (trace i z) _ _ (λ e. product_of_rows i x (sym (equals_true T.finite (X.at l) (X.at i) e)) h)
        ∙ mul_pick T.ring (equals E i l) (part z i) _)
        ∙ total_pick T.ring E l (λ i. T.ring.mul (part z i) (T.ring.mul order (conjugates l x)))
        ∙ ap (λ u. T.ring.mul u (T.ring.mul order (conjugates l x))) (part_at z)
        ∙ mul_left_comm T.ring (trace l z) order (conjugates l x))

  module _ (E : Finite S) (good : GoodTables X E) (free : IsTorsionFree T.ring) (l : S) where
    -- the degree of a row times the form of a carried function with the row
    form_with_row : (z : G → A) → IsCarried (X.at l) z → (i : S) → X.at i ≡ X.at l →
        multiple T.ring (X.degree i) (form E good free l z (conjugates E good free l i)) ≡ T.ring.mul (trace i z) (pick T.ring (equals E i l) (centraliser_order T (X.at l)))
    form_with_row z central i same =
        ap (multiple T.ring (X.degree i)) (form_is_trace E good free l z (conjugates E good free l i))
        ∙ sym (of_whole T.ring (X.degree i) _)
        ∙ mul_centraliser_sum T (X.at l) _ _
        ∙ centraliser_sum_ext T (X.at l) _ _ (λ x h. sym (T.ring.mul_assoc _ _ _) ∙ ap (λ u. T.ring.mul u (X.value l x)) (by_row x h) ∙ T.ring.mul_assoc _ _ _)
        ∙ sym (mul_centraliser_sum T (X.at l) (trace i z) _)
        ∙ ap (T.ring.mul (trace i z))
        (subst (λ a. centraliser_sum T a (λ y. T.ring.mul (T.involution.bar (X.value i y)) (X.value l y)) ≡ pick T.ring (equals E i l) (centraliser_order T a)) same (row_orthogonality T C X E good free i l same))
      where
        by_row : (x : G) → Commuting T x (X.at l) →
            T.ring.mul (multiple T.ring (X.degree i) T.ring.one) (centraliser_product T (X.at l) z (λ y. T.involution.bar (X.value i y)) x) ≡ T.ring.mul (trace i z) (T.involution.bar (X.value i x))
        by_row =
            subst
            (λ a. (x : G) → Commuting T x a →
            T.ring.mul (multiple T.ring (X.degree i) T.ring.one) (centraliser_product T a z (λ y. T.involution.bar (X.value i y)) x) ≡ T.ring.mul (trace i z) (T.involution.bar (X.value i x)))
            same (carried_times_row E good free i z (subst (λ a. IsCarried a z) (sym same) central))

    -- the degree of l in place of that of the row
    form_with_rows : (z : G → A) → IsCarried (X.at l) z → (i : S) → X.at i ≡ X.at l →
        T.ring.mul (degree E good free l) (form E good free l z (conjugates E good free l i)) ≡ pick T.ring (equals E i l) (T.ring.mul (trace l z) (order E good free l))
    form_with_rows z central i same =
        pick_where_equal T.ring E i l _ _
        (λ e. of_whole T.ring (X.degree l) _ ∙ ap (λ k. multiple T.ring (X.degree k) (form E good free l z (conjugates E good free l i))) (sym e)
        ∙ form_with_row z central i same ∙ ap₂ T.ring.mul (ap (λ k. trace k z) e) (pick_of T.ring _ _ (equals_of E i l e)))
        (λ other. ap (T.ring.mul (degree E good free l))
        (free.cancel (X.degree i) _ (X.degree_from_one i)
        (form_with_row z central i same ∙ ap (T.ring.mul (trace i z)) (pick_off T.ring _ _ (equals_false E i l other)) ∙ mul_nought T.ring _))
        ∙ mul_nought T.ring _)

    -- the degree times the form of two carried functions is the product of their traces
    pub form_of_carried : (z w : G → A) → IsCarried (X.at l) z → IsCarried (X.at l) w →
        T.ring.mul (degree E good free l) (form E good free l z w) ≡ T.ring.mul (trace l z) (trace l w)
    form_of_carried z w central_z central_w =
        cancel_centraliser_order T C free (X.at l) (X.at_representative l) _ _
        (mul_left_comm T.ring (order E good free l) (degree E good free l) _
        ∙ ap (T.ring.mul (degree E good free l))
        (sym (form_scaled E good free l (order E good free l) z w)
        ∙ form_ext E good free l _ _ _ _ (λ x h. refl) (by_parts E good free l w central_w)
        ∙ form_right E good free l (part E good free l w) z (conjugates E good free l))
        ∙ mul_total T.ring E (degree E good free l) _
        ∙ total_ext T.ring E _ _
        (λ i. mul_left_comm T.ring (degree E good free l) (part E good free l w i) _
        ∙ pick_factor T.ring (equals T.finite (X.at l) (X.at i)) (trace i w) _ _
        (λ e. form_with_rows z central_z i (sym (equals_true T.finite (X.at l) (X.at i) e)))
        ∙ mul_pick T.ring (equals E i l) (part E good free l w i) _)
        ∙ total_pick T.ring E l (λ i. T.ring.mul (part E good free l w i) (T.ring.mul (trace l z) (order E good free l)))
        ∙ ap (λ u. T.ring.mul u (T.ring.mul (trace l z) (order E good free l))) (part_at E good free l w)
        ∙ sorted (trace l w) (trace l z) (order E good free l))
      where
        sorted : (u v m : A) → T.ring.mul u (T.ring.mul v m) ≡ T.ring.mul m (T.ring.mul v u)
        sorted u v m = simp (product_rules, T.ring)

  -- the full character of i at x and the representative of l, as a function of x
  abbrev pub slice : S → S → G → A
  slice l i x = full_character T C X i x (X.at l)

  pub slice_carried : (l i : S) → IsCarried (X.at l) (slice l i)
  slice_carried l i = record {
    carried = λ c x p q.
        let a : G = X.at l in
        let y : G = T.group.op (T.group.op c x) (T.group.inv c) in
        let commuting_y : Commuting T y a = conjugate_commutes a c x p q in
        let back : conj T.group y c ≡ x = carried_back T.group c x in
        let fixed : conj T.group a c ≡ a = conj_of_commuting T.group a c (sym p) in
        let inverse : transport_root T y a c ≡ conjugation_root T a c x =
        inverse_unique T (transport_root T a y c) _ _ (transport_roots_inverse T a y c (sym commuting_y))
        (ap (λ r. T.ring.mul r (conjugation_root T a c x)) (sym (conjugation_root_bar T a c x)) ∙ T.ring.mul_comm _ _ ∙ conjugation_root_unit T a c x) in
        covariance T C X i y a c commuting_y ∙ ap₂ T.ring.mul inverse (ap₂ (full_character T C X i) back fixed);
  }

  -- the size of the class of l, as an element of the ring
  abbrev class_size : S → A
  class_size l = total T.ring T.finite (λ g. pick T.ring (in_class T C X l g) T.ring.one)

  -- with the carrier e a full character at the representative is the row
  value_at_representative : (l : S) (x : G) → Commuting T (X.at l) x → full_character T C X l (X.at l) x ≡ X.value l x
  value_at_representative l x h =
      transporter_independent T C X l (X.at l) x T.group.one (conj_one T.group (X.at l)) h
      ∙ ap₂ T.ring.mul (transport_root_along_one T (X.at l) x) (ap (X.value l) (conj_one T.group x)) ∙ one_mul T.ring (X.value l x)

  -- the conjugate of the sum of S at i and l is the size of the class of l times a trace
  s_sum_is_trace : (i l : S) → T.involution.bar (s_sum T C X i l) ≡ T.ring.mul (class_size l) (trace l (slice l i))
  s_sum_is_trace i l =
      ap T.involution.bar (s_sum_is T C X i l) ∙ bar_pair_sum T (pair_term T C X i l)
      ∙ pair_sum_ext T _ _ (λ g h c. ap T.involution.bar (pair_term_bar T C X i l g h) ∙ T.involution.bar_bar _)
      ∙ pair_sum_is T _
      ∙ total_exchange T.ring T.finite T.finite _
      ∙ total_ext T.ring T.finite _ _ (λ h. pick_cases T.ring (in_class T C X l h) _ _ (here h) (elsewhere h))
      ∙ sym (total_mul T.ring T.finite _ (trace l (slice l i)) ∙ total_ext T.ring T.finite _ _ (λ h. pick_mul T.ring (in_class T C X l h) T.ring.one _ ∙ ap (pick T.ring (in_class T C X l h)) (one_mul T.ring _)))
    where
      here : (h : G) → in_class T C X l h ≡ true →
          total T.ring T.finite (λ g. pick T.ring (commute T g h) (T.ring.mul (full_character T C X i g h) (full_character T C X l h g))) ≡ trace l (slice l i)
      here h e =
          total_ext T.ring T.finite _ (λ g. at_a (conj T.group g (C.carrier h))) (λ g. pick_both T.ring _ _ _ _ (test g) (λ p. term g (commute_true T g h p)))
          ∙ total_reindex T.ring T.finite T.finite (λ g. conj T.group g (C.carrier h)) (λ g. conj T.group g (T.group.inv (C.carrier h))) (λ g. conj_inv T.group g (C.carrier h)) (λ g. conj_of_inv T.group g (C.carrier h)) at_a
        where
          at_a : G → A
          at_a g = pick T.ring (commute T g (X.at l)) (T.ring.mul (full_character T C X i g (X.at l)) (X.value l g))

          carried : conj T.group h (C.carrier h) ≡ X.at l
          carried = C.carries h ∙ in_class_true T C X l h e

          test : (g : G) → commute T g h ≡ commute T (conj T.group g (C.carrier h)) (X.at l)
          test g = sym (commute_conj T g h (C.carrier h)) ∙ ap (commute T (conj T.group g (C.carrier h))) carried

          term : (g : G) → Commuting T g h →
              T.ring.mul (full_character T C X i g h) (full_character T C X l h g)
              ≡ T.ring.mul (full_character T C X i (conj T.group g (C.carrier h)) (X.at l)) (X.value l (conj T.group g (C.carrier h)))
          term g p =
              let k : G = C.carrier h in
              let moved : Commuting T (conj T.group g k) (X.at l) = subst (λ a. Commuting T (conj T.group g k) a) carried (commuting_conj T g h k p) in
              pair_product_invariant T C X i l g h k p
              ∙ ap (λ a. T.ring.mul (full_character T C X i (conj T.group g k) a) (full_character T C X l a (conj T.group g k))) carried
              ∙ ap (T.ring.mul (full_character T C X i (conj T.group g k) (X.at l))) (value_at_representative l (conj T.group g k) (sym moved))

      elsewhere : (h : G) → in_class T C X l h ≡ false →
          total T.ring T.finite (λ g. pick T.ring (commute T g h) (T.ring.mul (full_character T C X i g h) (full_character T C X l h g))) ≡ T.ring.nought
      elsewhere h e =
          total_none T.ring T.finite _
          (λ g. ap (pick T.ring (commute T g h)) (ap (T.ring.mul (full_character T C X i g h)) (full_character_off T C X l h g e) ∙ mul_nought T.ring _) ∙ pick_nought T.ring _)

  dimension_of_size : (l : S) → dimension T C X l ≡ T.ring.mul (class_size l) (multiple T.ring (X.degree l) T.ring.one)
  dimension_of_size l =
      dimension_is T C X l
      ∙ sym (total_mul T.ring T.finite _ (multiple T.ring (X.degree l) T.ring.one)
      ∙ total_ext T.ring T.finite _ _ (λ g. pick_mul T.ring (in_class T C X l g) T.ring.one _ ∙ ap (pick T.ring (in_class T C X l g)) (one_mul T.ring _ ∙ sym (X.degree_is l))))

  module _ (E : Finite S) (good : GoodTables X E) (free : IsTorsionFree T.ring) where
    -- the form of two slices is the trace of the tensor product
    form_is_tensor : (i j l : S) → form E good free l (slice l i) (slice l j) ≡ trace l (λ g. tensor_character T C X i j g (X.at l))
    form_is_tensor i j l =
        total_ext T.ring T.finite _ _
        (λ h. pick_total T.ring T.finite (commute T h (X.at l)) _
        ∙ total_ext T.ring T.finite _ _
        (λ k. pick_cong T.ring (commute T h (X.at l)) _ _
        (λ p. pick_cong T.ring (commute T k (X.at l)) _ _
        (λ q.
        let commuting_h : Commuting T h (X.at l) = commute_true T h (X.at l) p in
        let commuting_k : Commuting T k (X.at l) = commute_true T k (X.at l) q in
        ap₂ (λ r v. T.ring.mul (T.ring.mul r (T.ring.mul (slice l i h) (slice l j k))) v)
        (sym (coproduct_root_is_slant T (X.at l) h k commuting_h commuting_k))
        (sym (pick_of T.ring _ _ (commute_of T (T.group.op h k) (X.at l) (commuting_product T h k (X.at l) commuting_h commuting_k))))))))
        ∙ sym (tensor_total T C X i j (X.at l) (λ g. pick T.ring (commute T g (X.at l)) (X.value l g)))
        ∙ total_ext T.ring T.finite _ _ (λ g. mul_pick T.ring (commute T g (X.at l)) (tensor_character T C X i j g (X.at l)) (X.value l g))

    -- the order of the group times the form of two slices: the fusion sums with the traces
    fusion_of_traces : (i j l : S) →
        T.ring.mul (group_order T) (form E good free l (slice l i) (slice l j)) ≡ total T.ring E (λ k. T.ring.mul (fusion_sum T C X i j k) (trace l (slice l k)))
    fusion_of_traces i j l =
        ap (T.ring.mul (group_order T)) (form_is_tensor i j l)
        ∙ mul_centraliser_sum T (X.at l) (group_order T) _
        ∙ centraliser_sum_ext T (X.at l) _ _
        (λ g h. sym (T.ring.mul_assoc _ _ _)
        ∙ ap (λ u. T.ring.mul u (X.value l g)) (sym (decomposition T C X E good i j g (X.at l) h))
        ∙ total_mul T.ring E _ (X.value l g)
        ∙ total_ext T.ring E _ _ (λ k. T.ring.mul_assoc _ _ _))
        ∙ sym (total_centraliser_sum T (X.at l) E _)
        ∙ total_ext T.ring E _ _ (λ k. sym (mul_centraliser_sum T (X.at l) (fusion_sum T C X i j k) _))

    pub verlinde : (i j l : S) →
        T.ring.mul (group_order T) (T.ring.mul (T.involution.bar (s_sum T C X i l)) (T.involution.bar (s_sum T C X j l)))
        ≡ T.ring.mul (dimension T C X l) (total T.ring E (λ k. T.ring.mul (fusion_sum T C X i j k) (T.involution.bar (s_sum T C X k l))))
    verlinde i j l =
        ap (T.ring.mul (group_order T)) (ap₂ T.ring.mul (s_sum_is_trace i l) (s_sum_is_trace j l))
        ∙ sort (group_order T) (class_size l) (trace l (slice l i)) (trace l (slice l j))
        ∙ ap (λ u. T.ring.mul (T.ring.mul (class_size l) (class_size l)) (T.ring.mul (group_order T) u)) (sym (form_of_carried E good free l (slice l i) (slice l j) (slice_carried l i) (slice_carried l j)))
        ∙ sorted (class_size l) (group_order T) (multiple T.ring (X.degree l) T.ring.one) _
        ∙ ap₂ (λ u v. T.ring.mul u (T.ring.mul (class_size l) v)) (sym (dimension_of_size l)) (fusion_of_traces i j l)
        ∙ ap (T.ring.mul (dimension T C X l))
        (mul_total T.ring E (class_size l) _
        ∙ total_ext T.ring E _ _ (λ k. mul_left_comm T.ring (class_size l) (fusion_sum T C X i j k) _ ∙ ap (T.ring.mul (fusion_sum T C X i j k)) (sym (s_sum_is_trace k l))))
      where
        sort : (n s u v : A) → T.ring.mul n (T.ring.mul (T.ring.mul s u) (T.ring.mul s v)) ≡ T.ring.mul (T.ring.mul s s) (T.ring.mul n (T.ring.mul u v))
        sort n s u v = simp (product_rules, T.ring)

        sorted : (s n d f : A) → T.ring.mul (T.ring.mul s s) (T.ring.mul n (T.ring.mul d f)) ≡ T.ring.mul (T.ring.mul s d) (T.ring.mul s (T.ring.mul n f))
        sorted s n d f = simp (product_rules, T.ring)
