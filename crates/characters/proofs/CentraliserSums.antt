-- Laws of sums over the centraliser of an element.
use Rattle.characters.proofs.Names.{◌≡◌, sym, ◌∙◌, ap, pick, Finite, equals, total, one_mul, pick_of, pick_cong, mul_pick, pick_mul, pick_swap, inv_op_op, op_inv_op, op_cancel_left, total_ext, total_exchange, total_pick, total_reindex, mul_total, total_mul, pick_total, Setting, Commuting, commute, centraliser_sum, centraliser_order}
use Rattle.characters.proofs.SettingLaws.{commute_of, commute_true, commuting_product, commute_both}
use Rattle.characters.proofs.AlgebraLaws.{centraliser_order_is}

module _ {A G : Type 0} (T : Setting A G) (a : G) where
  pub centraliser_sum_ext : (f r : G → A) → ((x : G) → Commuting T x a → f x ≡ r x) → centraliser_sum T a f ≡ centraliser_sum T a r
  centraliser_sum_ext f r e = total_ext T.ring T.finite _ _ (λ x. pick_cong T.ring (commute T x a) (f x) (r x) (λ h. e x (commute_true T x a h)))

  pub mul_centraliser_sum : (c : A) (f : G → A) → T.ring.mul c (centraliser_sum T a f) ≡ centraliser_sum T a (λ x. T.ring.mul c (f x))
  mul_centraliser_sum c f = simp (mul_total, mul_pick)

  pub centraliser_sum_mul : (f : G → A) (c : A) → T.ring.mul (centraliser_sum T a f) c ≡ centraliser_sum T a (λ x. T.ring.mul (f x) c)
  centraliser_sum_mul f c = simp (total_mul, pick_mul)

  -- a sum over another type is taken inside
  pub total_centraliser_sum : {S : Type 0} (E : Finite S) (f : S → G → A) → total T.ring E (λ k. centraliser_sum T a (f k)) ≡ centraliser_sum T a (λ x. total T.ring E (λ k. f k x))
  total_centraliser_sum E f = total_exchange T.ring E T.finite _ ∙ total_ext T.ring T.finite _ _ (λ x. sym (pick_total T.ring E (commute T x a) (λ k. f k x)))

  pub centraliser_sum_exchange : (f : G → G → A) → centraliser_sum T a (λ x. centraliser_sum T a (λ y. f x y)) ≡ centraliser_sum T a (λ y. centraliser_sum T a (λ x. f x y))
  centraliser_sum_exchange f =
      total_ext T.ring T.finite _ _ (λ x. pick_total T.ring T.finite (commute T x a) _ ∙ total_ext T.ring T.finite _ _ (λ y. pick_swap T.ring (commute T x a) (commute T y a) (f x y)))
      ∙ total_exchange T.ring T.finite T.finite _
      ∙ total_ext T.ring T.finite _ _ (λ y. sym (pick_total T.ring T.finite (commute T y a) (λ x. pick T.ring (commute T x a) (f x y))))

  -- a sum with one term
  pub centraliser_sum_pick : (z : G) (f : G → A) → Commuting T z a → centraliser_sum T a (λ x. pick T.ring (equals T.finite x z) (f x)) ≡ f z
  centraliser_sum_pick z f h =
      total_ext T.ring T.finite _ _ (λ x. pick_swap T.ring (commute T x a) (equals T.finite x z) (f x))
      ∙ total_pick T.ring T.finite z (λ x. pick T.ring (commute T x a) (f x)) ∙ pick_of T.ring _ _ (commute_of T z a h)

  -- a sum along multiplication by an element of the centraliser
  pub centraliser_sum_shift : (y : G) (f : G → A) → Commuting T y a → centraliser_sum T a (λ x. f (T.group.op y x)) ≡ centraliser_sum T a f
  centraliser_sum_shift y f h =
      total_ext T.ring T.finite _ _ (λ x. ap (λ b. pick T.ring b (f (T.group.op y x))) (commute_both T x a (T.group.op y x) a (commuting_product T y x a h) (back x)))
      ∙ total_reindex T.ring T.finite T.finite (T.group.op y) (T.group.op (T.group.inv y)) (inv_op_op T.group y) (op_inv_op T.group y) (λ x. pick T.ring (commute T x a) (f x))
    where
      back : (x : G) → Commuting T (T.group.op y x) a → Commuting T x a
      back x e =
          op_cancel_left T.group y _ _
          (sym (T.group.op_assoc y x a) ∙ e ∙ sym (T.group.op_assoc a y x) ∙ ap (λ z. T.group.op z x) (sym h) ∙ T.group.op_assoc y a x)

  pub centraliser_sum_same : (c : A) → centraliser_sum T a (λ x. c) ≡ T.ring.mul (centraliser_order T a) c
  centraliser_sum_same c = simp (centraliser_order_is, total_mul, pick_mul, one_mul)
