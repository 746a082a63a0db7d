-- Laws of sums over the pairs of elements that commute.
use Rattle.characters.proofs.Names.{◌≡◌, refl, sym, ◌∙◌, ap, pick, Finite, equals, total, pick_of, pick_cong, mul_pick, pick_map, pick_swap, op_op_inv, total_reindex, total_ext, total_exchange, total_pick, mul_total, pick_total, total_map, op_inv_cancel, op_cancel_right, inv_inv, Setting, Commuting, commute, pair_sum, inner_product, subst}
use Rattle.characters.proofs.SettingLaws.{commute_of, commute_true, commute_symmetric, commuting_product, commuting_inv, commute_both, commutes_one}

module _ {A G : Type 0} (T : Setting A G) where
  pub pair_sum_is : (f : G → G → A) → pair_sum T f ≡ total T.ring T.finite (λ g. total T.ring T.finite (λ x. pick T.ring (commute T g x) (f g x)))
  unfolding pair_sum
  pair_sum_is f = refl

  -- functions that are equal at pairs that commute have one sum
  pub pair_sum_ext : (f r : G → G → A) → ((g x : G) → Commuting T g x → f g x ≡ r g x) → pair_sum T f ≡ pair_sum T r
  unfolding pair_sum
  pair_sum_ext f r e =
      total_ext T.ring T.finite _ _ (λ g. total_ext T.ring T.finite _ _ (λ x. pick_cong T.ring (commute T g x) (f g x) (r g x) (λ h. e g x (commute_true T g x h))))

  pub mul_pair_sum : (c : A) (f : G → G → A) → T.ring.mul c (pair_sum T f) ≡ pair_sum T (λ g x. T.ring.mul c (f g x))
  unfolding pair_sum
  mul_pair_sum c f = simp (mul_total, mul_pick)

  pub pair_sum_mul : (f : G → G → A) (c : A) → T.ring.mul (pair_sum T f) c ≡ pair_sum T (λ g x. T.ring.mul (f g x) c)
  pair_sum_mul f c = T.ring.mul_comm (pair_sum T f) c ∙ mul_pair_sum c f ∙ pair_sum_ext _ _ (λ g x h. T.ring.mul_comm c (f g x))

  pub bar_pair_sum : (f : G → G → A) → T.involution.bar (pair_sum T f) ≡ pair_sum T (λ g x. T.involution.bar (f g x))
  unfolding pair_sum
  bar_pair_sum f = simp (total_map T.ring T.ring T.finite T.involution.bar T.involution.bar_add, pick_map T.ring T.ring T.involution.bar T.involution.bar_add)

  -- the two elements of a pair may be exchanged
  pub pair_sum_swap : (f : G → G → A) → pair_sum T f ≡ pair_sum T (λ x g. f g x)
  unfolding pair_sum
  pair_sum_swap f =
      total_exchange T.ring T.finite T.finite _
      ∙ total_ext T.ring T.finite _ _ (λ x. total_ext T.ring T.finite _ _ (λ g. ap (λ b. pick T.ring b (f g x)) (commute_symmetric T g x)))

  -- a sum over another type is taken inside
  pub total_pair_sum : {S : Type 0} (E : Finite S) (f : S → G → G → A) → total T.ring E (λ k. pair_sum T (f k)) ≡ pair_sum T (λ g x. total T.ring E (λ k. f k g x))
  unfolding pair_sum
  total_pair_sum E f =
      total_exchange T.ring E T.finite _
      ∙ total_ext T.ring T.finite _ _
      (λ g. total_exchange T.ring E T.finite _ ∙ total_ext T.ring T.finite _ _ (λ x. sym (pick_total T.ring E (commute T g x) (λ k. f k g x))))

  -- a sum with one pair
  pub pair_sum_pick : (h y : G) (f : G → G → A) → Commuting T h y →
      pair_sum T (λ g x. pick T.ring (equals T.finite g h) (pick T.ring (equals T.finite x y) (f g x))) ≡ f h y
  unfolding pair_sum
  pair_sum_pick h y f commuting =
      total_ext T.ring T.finite _ _
      (λ g. total_ext T.ring T.finite _ _
      (λ x. pick_swap T.ring (commute T g x) (equals T.finite g h) (pick T.ring (equals T.finite x y) (f g x))
      ∙ ap (pick T.ring (equals T.finite g h)) (pick_swap T.ring (commute T g x) (equals T.finite x y) (f g x)))
      ∙ sym (pick_total T.ring T.finite (equals T.finite g h) (λ x. pick T.ring (equals T.finite x y) (pick T.ring (commute T g x) (f g x))))
      ∙ ap (pick T.ring (equals T.finite g h)) (total_pick T.ring T.finite y (λ x. pick T.ring (commute T g x) (f g x))))
      ∙ total_pick T.ring T.finite h (λ g. pick T.ring (commute T g y) (f g y))
      ∙ pick_of T.ring (commute T h y) (f h y) (commute_of T h y commuting)

  -- a sum over pairs whose second element is the identity
  pub pair_sum_at_one : (f : G → G → A) → pair_sum T (λ g x. pick T.ring (equals T.finite x T.group.one) (f g x)) ≡ total T.ring T.finite (λ g. f g T.group.one)
  pair_sum_at_one f =
      pair_sum_is _
      ∙ total_ext T.ring T.finite _ _
      (λ g. total_ext T.ring T.finite _ _ (λ x. pick_swap T.ring (commute T g x) (equals T.finite x T.group.one) (f g x))
      ∙ total_pick T.ring T.finite T.group.one (λ x. pick T.ring (commute T g x) (f g x))
      ∙ pick_of T.ring _ _ (commute_of T g T.group.one (commutes_one T g)))

  pub inner_product_is : (p r : G → G → A) → inner_product T p r ≡ pair_sum T (λ g x. T.ring.mul (p g x) (T.involution.bar (r g x)))
  unfolding inner_product
  inner_product_is p r = refl

  -- the second element may be taken along maps that are inverse to each other and keep what commutes with the first
  pair_sum_reindex : (p q : G → G → G) → ((g x : G) → q g (p g x) ≡ x) → ((g x : G) → p g (q g x) ≡ x)
      → ((g x : G) → commute T g x ≡ commute T g (p g x)) → (f : G → G → A) → pair_sum T f ≡ pair_sum T (λ g x. f g (p g x))
  unfolding pair_sum
  pair_sum_reindex p q qp pq test f =
      sym (total_ext T.ring T.finite _ _
      (λ g. total_ext T.ring T.finite _ _ (λ x. ap (λ b. pick T.ring b (f g (p g x))) (test g x))
      ∙ total_reindex T.ring T.finite T.finite (p g) (q g) (qp g) (pq g) (λ x. pick T.ring (commute T g x) (f g x))))

  -- so as a product with the first
  pub pair_sum_shift : (f : G → G → A) → pair_sum T f ≡ pair_sum T (λ g p. f g (T.group.op p g))
  pair_sum_shift =
      pair_sum_reindex (λ g p. T.group.op p g) (λ g h. T.group.op h (T.group.inv g)) (op_op_inv T.group) (op_inv_cancel T.group)
      (λ g p. commute_both T g p g (T.group.op p g) (λ e. sym (commuting_product T p g g (sym e) refl))
      (λ e. op_cancel_right T.group g _ _ (T.group.op_assoc g p g ∙ e)))

  -- or as an inverse
  pub pair_sum_inverse : (f : G → G → A) → pair_sum T f ≡ pair_sum T (λ g h. f g (T.group.inv h))
  pair_sum_inverse =
      pair_sum_reindex (λ g h. T.group.inv h) (λ g h. T.group.inv h) (λ g h. inv_inv T.group h) (λ g h. inv_inv T.group h)
      (λ g h. commute_both T g h g (T.group.inv h) (λ e. sym (commuting_inv T h g (sym e)))
      (λ e. sym (subst (λ z. Commuting T z g) (inv_inv T.group h) (commuting_inv T (T.group.inv h) g (sym e)))))
