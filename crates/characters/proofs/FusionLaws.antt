-- Tensor products decompose into simples.
use Rattle.characters.proofs.Names.{◌≡◌, refl, sym, ◌∙◌, ap, ap₂, pick, Finite, equals, total, conj, product_rules, one_mul, mul_left_comm, pick_of, mul_pick, pick_mul, op_conj, conj_injective, conj_inv, conj_of_inv, one_conj, total_ext, total_exchange, total_pick, total_reindex, mul_total, total_mul, pick_total, equals_true, Setting, Classes, Commuting, commute, transport_root, coproduct_root, Simples, group_order, GoodTables, inner_product, IsCovariant, full_character, dimension, tensor_character, fusion_sum}
use Rattle.characters.proofs.SettingLaws.{commute_of, commute_true, commute_conj, coproduct_root_at_one, coproduct_root_carried, transport_root_of_one, commutes_one, pick_both, equals_both, carried_test, equals_symmetric}
use Rattle.characters.proofs.PairLaws.{pair_sum_ext, mul_pair_sum, total_pair_sum, inner_product_is, pair_sum_at_one}
use Rattle.characters.proofs.CharacterLaws.{covariance}
use Rattle.characters.proofs.SLaws.{dimension_is, full_character_at_one}
use Rattle.characters.proofs.OrthogonalityLaws.{group_order_is}
use Rattle.characters.proofs.SecondOrthogonality.{second_orthogonality}
use Rattle.characters.proofs.Expansion.{expansion}

module _ {A G : Type 0} (T : Setting A G) where
  -- conjugation takes g = h k to a like equation
  product_test : (g h k c : G) → equals T.finite (conj T.group g c) (T.group.op (conj T.group h c) (conj T.group k c)) ≡ equals T.finite g (T.group.op h k)
  product_test g h k c =
      equals_both T.finite T.finite _ _ _ _ (λ e. conj_injective T.group g (T.group.op h k) c (e ∙ sym (op_conj T.group h k c))) (λ e. ap (λ z. conj T.group z c) e ∙ op_conj T.group h k c)

  -- a total over all elements, taken over their conjugates
  total_conj : (c : G) (f : G → A) → total T.ring T.finite (λ g. f (conj T.group g c)) ≡ total T.ring T.finite f
  total_conj c f = total_reindex T.ring T.finite T.finite (λ g. conj T.group g c) (λ g. conj T.group g (T.group.inv c)) (λ g. conj_inv T.group g c) (λ g. conj_of_inv T.group g c) f

module _ {A G S : Type 0} (T : Setting A G) (C : Classes T.group) (X : Simples T C S) where
  -- the term of a tensor product at h and k
  abbrev tensor_term : S → S → G → G → G → A
  tensor_term i j x h k = T.ring.mul (coproduct_root T x h k) (T.ring.mul (full_character T C X i h x) (full_character T C X j k x))

  abbrev picked_term : S → S → G → G → G → G → A
  picked_term i j g x h k = pick T.ring (equals T.finite g (T.group.op h k)) (pick T.ring (commute T h x) (pick T.ring (commute T k x) (tensor_term i j x h k)))

  pub tensor_character_is : (i j : S) (g x : G) → tensor_character T C X i j g x ≡ total T.ring T.finite (λ h. total T.ring T.finite (λ k. picked_term i j g x h k))
  unfolding tensor_character
  tensor_character_is i j g x = refl

  pub fusion_sum_is : (i j k : S) → fusion_sum T C X i j k ≡ inner_product T (tensor_character T C X i j) (full_character T C X k)
  unfolding fusion_sum
  fusion_sum_is i j k = refl

  term_carried : (i j : S) (x h k c : G) → Commuting T h x → Commuting T k x →
      tensor_term i j x h k ≡ T.ring.mul (transport_root T (T.group.op h k) x c) (tensor_term i j (conj T.group x c) (conj T.group h c) (conj T.group k c))
  term_carried i j x h k c p q =
      let u : A = full_character T C X i (conj T.group h c) (conj T.group x c) in
      let v : A = full_character T C X j (conj T.group k c) (conj T.group x c) in
      ap (T.ring.mul (coproduct_root T x h k)) (ap₂ T.ring.mul (covariance T C X i h x c p) (covariance T C X j k x c q))
      ∙ sort (coproduct_root T x h k) (transport_root T h x c) u (transport_root T k x c) v
      ∙ ap (λ z. T.ring.mul z (T.ring.mul u v)) (coproduct_root_carried T x h k c p q)
      ∙ T.ring.mul_assoc _ _ _
    where
      sort : (a r u s v : A) → T.ring.mul a (T.ring.mul (T.ring.mul r u) (T.ring.mul s v)) ≡ T.ring.mul (T.ring.mul a (T.ring.mul r s)) (T.ring.mul u v)
      sort a r u s v = simp (product_rules, T.ring)

  picked_carried : (i j : S) (g x h k c : G) → picked_term i j g x h k ≡ T.ring.mul (transport_root T g x c) (picked_term i j (conj T.group g c) (conj T.group x c) (conj T.group h c) (conj T.group k c))
  picked_carried i j g x h k c =
      pick_both T.ring _ _ _ _ (sym (product_test T g h k c))
      (λ e. pick_both T.ring _ _ _ _ (sym (commute_conj T h x c))
      (λ p. pick_both T.ring _ _ _ _ (sym (commute_conj T k x c))
      (λ q. term_carried i j x h k c (commute_true T h x p) (commute_true T k x q)
      ∙ ap (λ z. T.ring.mul (transport_root T z x c) (tensor_term i j (conj T.group x c) (conj T.group h c) (conj T.group k c))) (sym (equals_true T.finite g (T.group.op h k) e)))
      ∙ sym (mul_pick T.ring _ _ _))
      ∙ sym (mul_pick T.ring _ _ _))
      ∙ sym (mul_pick T.ring _ _ _)

  -- tensor products are covariant
  pub tensor_covariant : (i j : S) → IsCovariant T (tensor_character T C X i j)
  tensor_covariant i j = record {
    covariant = λ g x c commuting.
        tensor_character_is i j g x
        ∙ total_ext T.ring T.finite _ _
        (λ h. total_ext T.ring T.finite _ _ (λ k. picked_carried i j g x h k c)
        ∙ sym (mul_total T.ring T.finite (transport_root T g x c) _)
        ∙ ap (T.ring.mul (transport_root T g x c)) (total_conj T c (λ k. picked_term i j (conj T.group g c) (conj T.group x c) (conj T.group h c) k)))
        ∙ sym (mul_total T.ring T.finite (transport_root T g x c) _)
        ∙ ap (T.ring.mul (transport_root T g x c))
        (total_conj T c (λ h. total T.ring T.finite (λ k. picked_term i j (conj T.group g c) (conj T.group x c) h k))
        ∙ sym (tensor_character_is i j (conj T.group g c) (conj T.group x c)));
  }

  -- a sum of tensor products over all first elements
  pub tensor_total : (i j : S) (x : G) (f : G → A) →
      total T.ring T.finite (λ g. T.ring.mul (tensor_character T C X i j g x) (f g))
      ≡ total T.ring T.finite (λ h. total T.ring T.finite (λ k. pick T.ring (commute T h x) (pick T.ring (commute T k x) (T.ring.mul (tensor_term i j x h k) (f (T.group.op h k))))))
  tensor_total i j x f =
      total_ext T.ring T.finite _ _
      (λ g. ap (λ z. T.ring.mul z (f g)) (tensor_character_is i j g x)
      ∙ total_mul T.ring T.finite _ (f g)
      ∙ total_ext T.ring T.finite _ _
      (λ h. total_mul T.ring T.finite _ (f g)
      ∙ total_ext T.ring T.finite _ _
      (λ k. pick_mul T.ring _ _ (f g) ∙ ap (pick T.ring (equals T.finite g (T.group.op h k))) (pick_mul T.ring _ _ (f g) ∙ ap (pick T.ring (commute T h x)) (pick_mul T.ring _ _ (f g))))))
      ∙ total_exchange T.ring T.finite T.finite _
      ∙ total_ext T.ring T.finite _ _
      (λ h. total_exchange T.ring T.finite T.finite _
      ∙ total_ext T.ring T.finite _ _
      (λ k. total_pick T.ring T.finite (T.group.op h k) (λ g. pick T.ring (commute T h x) (pick T.ring (commute T k x) (T.ring.mul (tensor_term i j x h k) (f g))))))

  -- the dimension adds up the values at the identity
  pub dimension_total : (i : S) → dimension T C X i ≡ total T.ring T.finite (λ g. full_character T C X i g T.group.one)
  dimension_total i = dimension_is T C X i ∙ total_ext T.ring T.finite _ _ (λ g. sym (full_character_at_one T C X i g))

  -- the tensor product at the identity adds up to the product of the dimensions
  pub tensor_dimension : (i j : S) → total T.ring T.finite (λ g. tensor_character T C X i j g T.group.one) ≡ T.ring.mul (dimension T C X i) (dimension T C X j)
  tensor_dimension i j =
      total_ext T.ring T.finite _ _ (λ g. sym (T.ring.mul_one _))
      ∙ tensor_total i j T.group.one (λ g. T.ring.one)
      ∙ total_ext T.ring T.finite _ _
      (λ h. total_ext T.ring T.finite _ _
      (λ k. pick_of T.ring _ _ (commute_of T h T.group.one (commutes_one T h))
      ∙ pick_of T.ring _ _ (commute_of T k T.group.one (commutes_one T k))
      ∙ T.ring.mul_one _ ∙ ap₂ T.ring.mul (coproduct_root_at_one T h k) refl ∙ one_mul T.ring _)
      ∙ sym (mul_total T.ring T.finite (full_character T C X i h T.group.one) _))
      ∙ sym (total_mul T.ring T.finite _ _)
      ∙ sym (ap₂ T.ring.mul (dimension_total i) (dimension_total j))

  module _ (E : Finite S) (good : GoodTables X E) where
    -- the order of the group times the tensor product of i and j is the sum over the simples of their fusion sums with the full characters
    pub decomposition : (i j : S) (g x : G) → Commuting T g x →
        total T.ring E (λ k. T.ring.mul (fusion_sum T C X i j k) (full_character T C X k g x)) ≡ T.ring.mul (group_order T) (tensor_character T C X i j g x)
    decomposition i j g x commuting =
        total_ext T.ring E _ _ (λ k. ap (λ z. T.ring.mul z (full_character T C X k g x)) (fusion_sum_is i j k))
        ∙ expansion T C X E good (tensor_character T C X i j) (tensor_covariant i j) g x commuting

    -- the dimensions with the conjugates of the full characters: the order of the group at the identity, else nought
    pub dimensions_orthogonal : (g x : G) → Commuting T g x →
        total T.ring E (λ k. T.ring.mul (dimension T C X k) (T.involution.bar (full_character T C X k g x))) ≡ pick T.ring (equals T.finite x T.group.one) (group_order T)
    dimensions_orthogonal g x commuting =
        total_ext T.ring E _ _ (λ k. ap (λ z. T.ring.mul z (T.involution.bar (full_character T C X k g x))) (dimension_total k) ∙ total_mul T.ring T.finite _ _)
        ∙ total_exchange T.ring E T.finite _
        ∙ total_ext T.ring T.finite _ _
        (λ h. second_orthogonality T C X E good h T.group.one g x (commutes_one T h) commuting
        ∙ total_ext T.ring T.finite _ _
        (λ s. ap (pick T.ring (equals T.finite g (conj T.group h s))) (ap₂ (λ u v. pick T.ring (equals T.finite x u) v) (one_conj T.group s) (transport_root_of_one T h s))
        ∙ ap (λ b. pick T.ring b (pick T.ring (equals T.finite x T.group.one) T.ring.one)) (back h s)))
        ∙ total_exchange T.ring T.finite T.finite _
        ∙ total_ext T.ring T.finite _ _ (λ s. total_pick T.ring T.finite (conj T.group g (T.group.inv s)) (λ h. pick T.ring (equals T.finite x T.group.one) T.ring.one))
        ∙ sym (pick_total T.ring T.finite (equals T.finite x T.group.one) (λ s. T.ring.one))
        ∙ ap (pick T.ring (equals T.finite x T.group.one)) (sym (group_order_is T))
      where
        back : (h s : G) → equals T.finite g (conj T.group h s) ≡ equals T.finite h (conj T.group g (T.group.inv s))
        back h s = equals_symmetric T.finite g (conj T.group h s) ∙ carried_test T h g s

    -- the fusion sums with the dimensions: the order of the group times the product of the dimensions
    pub fusion_dimensions : (i j : S) →
        total T.ring E (λ k. T.ring.mul (fusion_sum T C X i j k) (dimension T C X k)) ≡ T.ring.mul (group_order T) (T.ring.mul (dimension T C X i) (dimension T C X j))
    fusion_dimensions i j =
        total_ext T.ring E _ _
        (λ k. T.ring.mul_comm _ _ ∙ ap (T.ring.mul (dimension T C X k)) (fusion_sum_is i j k ∙ inner_product_is T (tensor_character T C X i j) (full_character T C X k)) ∙ mul_pair_sum T (dimension T C X k) _)
        ∙ total_pair_sum T E _
        ∙ pair_sum_ext T _ _
        (λ g x c. total_ext T.ring E _ _ (λ k. mul_left_comm T.ring (dimension T C X k) (tensor_character T C X i j g x) (T.involution.bar (full_character T C X k g x)))
        ∙ sym (mul_total T.ring E (tensor_character T C X i j g x) _)
        ∙ ap (T.ring.mul (tensor_character T C X i j g x)) (dimensions_orthogonal g x c)
        ∙ mul_pick T.ring (equals T.finite x T.group.one) (tensor_character T C X i j g x) (group_order T))
        ∙ pair_sum_at_one T (λ g x. T.ring.mul (tensor_character T C X i j g x) (group_order T))
        ∙ sym (total_mul T.ring T.finite _ (group_order T))
        ∙ T.ring.mul_comm _ _
        ∙ ap (T.ring.mul (group_order T)) (tensor_dimension i j)
