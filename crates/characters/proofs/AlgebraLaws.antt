-- The twisted group algebra of an element: by elements, and by the places of its centraliser.
use Rattle.characters.proofs.Names.{◌≡◌, refl, sym, ◌∙◌, ap, pick, multiple, Finite, equals, total, Group, inv_op_op, total_ext, total_constant, Setting, Commuting, commute, slant_root, conjugation_root, centraliser_order, centraliser_product, IsSubgroup}
use Rattle.characters.proofs.SettingLaws.{commute_of, commuting_product, cancel_unit, slant_root_bar, conjugation_root_is}
use Rattle.characters.proofs.PartLaws.{element_inv, element_quotient, element_conjugate, at_elements, equals_at_places, total_places}

module _ {A G : Type 0} (T : Setting A G) (a : G) where
  -- an element of the algebra that commutes with each u_y is carried by conjugation
  pub central_of_commuting : (z : G → A)
      → ((y x : G) → Commuting T y a → Commuting T x a
      → T.ring.mul (slant_root T a y (T.group.op (T.group.inv y) x)) (z (T.group.op (T.group.inv y) x))
      ≡ T.ring.mul (slant_root T a (T.group.op x (T.group.inv y)) y) (z (T.group.op x (T.group.inv y))))
      → (c x : G) → Commuting T c a → Commuting T x a
      → z (T.group.op (T.group.op c x) (T.group.inv c)) ≡ T.ring.mul (conjugation_root T a c x) (z x)
  central_of_commuting z commutes c x commuting_c commuting_x =
      let y : G = T.group.op (T.group.op c x) (T.group.inv c) in
      let r : A = slant_root T a y c in
      let inner : T.group.op (T.group.inv c) (T.group.op c x) ≡ x = inv_op_op T.group c x in
      let at : T.ring.mul (slant_root T a c x) (z x) ≡ T.ring.mul r (z y) =
      sym (ap (λ b. T.ring.mul (slant_root T a c b) (z b)) inner) ∙ commutes c (T.group.op c x) commuting_c (commuting_product T c x a commuting_c commuting_x) in
      let whole : T.ring.mul r (T.ring.mul (conjugation_root T a c x) (z x)) ≡ T.ring.mul r (z y) =
      sym (T.ring.mul_assoc _ _ _) ∙ ap (λ b. T.ring.mul b (z x)) (T.ring.mul_comm _ _ ∙ conjugation_root_is T a c x) ∙ at in
      sym (cancel_unit T r (T.involution.bar r) _ _ (slant_root_bar T a y c) whole)

  pub centraliser_order_is : centraliser_order T a ≡ total T.ring T.finite (λ x. pick T.ring (commute T x a) T.ring.one)
  unfolding centraliser_order
  centraliser_order_is = refl

  pub centraliser_product_is : (p r : G → A) (x : G) →
      centraliser_product T a p r x
      ≡ total T.ring T.finite (λ y. pick T.ring (commute T y a)
      (T.ring.mul (slant_root T a y (T.group.op (T.group.inv y) x)) (T.ring.mul (p y) (r (T.group.op (T.group.inv y) x)))))
  unfolding centraliser_product
  centraliser_product_is p r x = refl

-- the centraliser of a by its places
module _ {A G K : Type 0} (T : Setting A G) (a : G) (Q : Group K) (element : K → G) (I : IsSubgroup T.group (λ x. commute T x a) Q element) where
  -- what holds at every place holds at every element that commutes with a
  pub at_commuting : (holds : G → Type 0) → ((p : K) → holds (element p)) → (x : G) → Commuting T x a → holds x
  at_commuting holds at x h = at_elements (λ y. commute T y a) element I.part holds at x (commute_of T x a h)

  -- and what holds at every two places
  pub at_commuting_pairs : (holds : G → G → Type 0) → ((p q : K) → holds (element p) (element q)) → (x y : G) → Commuting T x a → Commuting T y a → holds x y
  at_commuting_pairs holds at x y h k = at_commuting (λ x. holds x y) (λ p. at_commuting (holds (element p)) (at p) y k) x h

  -- an element that commutes with each u_y, as an equation of places, is carried by conjugation
  pub central_at_places : (z : G → A)
      → ((y x : K)
      → T.ring.mul (slant_root T a (element y) (element (Q.op (Q.inv y) x))) (z (element (Q.op (Q.inv y) x)))
      ≡ T.ring.mul (slant_root T a (element (Q.op x (Q.inv y))) (element y)) (z (element (Q.op x (Q.inv y)))))
      → (c x : G) → Commuting T c a → Commuting T x a
      → z (T.group.op (T.group.op c x) (T.group.inv c)) ≡ T.ring.mul (conjugation_root T a c x) (z x)
  central_at_places z at_places =
      central_of_commuting T a z
      (at_commuting_pairs
      (λ u v. T.ring.mul (slant_root T a u (T.group.op (T.group.inv u) v)) (z (T.group.op (T.group.inv u) v))
      ≡ T.ring.mul (slant_root T a (T.group.op v (T.group.inv u)) u) (z (T.group.op v (T.group.inv u))))
      (λ p q.
      let left : element (Q.op (Q.inv p) q) ≡ T.group.op (T.group.inv (element p)) (element q) = element_quotient T.group (λ y. commute T y a) Q element I p q in
      let right : element (Q.op q (Q.inv p)) ≡ T.group.op (element q) (T.group.inv (element p)) =
      I.respects q (Q.inv p) ∙ ap (T.group.op (element q)) (element_inv T.group (λ y. commute T y a) Q element I p) in
      sym (ap (λ u. T.ring.mul (slant_root T a (element p) u) (z u)) left) ∙ at_places p q ∙ ap (λ u. T.ring.mul (slant_root T a u (element p)) (z u)) right))

-- sums over its places
module _ {A G K : Type 0} (T : Setting A G) (a : G) (Q : Group K) (E : Finite K) (element : K → G) (I : IsSubgroup T.group (λ x. commute T x a) Q element) where
  -- the order of the centraliser is the number of places
  pub order_of_places : centraliser_order T a ≡ multiple T.ring E.size T.ring.one
  order_of_places =
      centraliser_order_is T a ∙ sym (total_places (λ x. commute T x a) element I.part T.ring T.finite E (λ x. T.ring.one)) ∙ total_constant T.ring E T.ring.one

  -- the product is taken over places
  pub product_at_places : (p r : G → A) (x : K) →
      centraliser_product T a p r (element x)
      ≡ total T.ring E (λ y. T.ring.mul (slant_root T a (element y) (element (Q.op (Q.inv y) x))) (T.ring.mul (p (element y)) (r (element (Q.op (Q.inv y) x)))))
  product_at_places p r x =
      centraliser_product_is T a p r (element x)
      ∙ sym (total_places (λ y. commute T y a) element I.part T.ring T.finite E _)
      ∙ total_ext T.ring E _ _
      (λ y. ap (λ z. T.ring.mul (slant_root T a (element y) z) (T.ring.mul (p (element y)) (r z))) (sym (element_quotient T.group (λ z. commute T z a) Q element I y x)))

  -- so is the sum over what carries one element to another
  pub column_at_places : (x y : K) →
      total T.ring T.finite (λ c. pick T.ring (commute T c a)
      (pick T.ring (equals T.finite (T.group.op (T.group.op c (element x)) (T.group.inv c)) (element y)) (T.involution.bar (conjugation_root T a c (element x)))))
      ≡ total T.ring E (λ c. pick T.ring (equals E (Q.op (Q.op c x) (Q.inv c)) y) (T.involution.bar (conjugation_root T a (element c) (element x))))
  column_at_places x y =
      sym (total_places (λ c. commute T c a) element I.part T.ring T.finite E _)
      ∙ total_ext T.ring E _ _
      (λ c. ap (λ b. pick T.ring b (T.involution.bar (conjugation_root T a (element c) (element x))))
      (ap (λ z. equals T.finite z (element y)) (sym (element_conjugate T.group (λ z. commute T z a) Q element I c x))
      ∙ sym (equals_at_places (λ z. commute T z a) element I.part T.finite E (Q.op (Q.op c x) (Q.inv c)) y)))
