-- A good table over the places of a centraliser is one over its elements.
use Rattle.characters.proofs.Names.{◌≡◌, sym, ◌∙◌, ap, subst, ap₂, pick, multiple, Finite, equals, total, Group, multiple_is_mul, equals_of, Setting, Classes, Commuting, commute, slant_root, conjugation_root, Simples, centraliser_order, centraliser_product, GoodTable, IsPart, IsSubgroup}
use Rattle.characters.specs.PlaceTables.{row_product, GoodTableAtPlaces}
use Rattle.characters.proofs.PartLaws.{element_one, element_inv, at_elements, equals_at_places, total_places}
use Rattle.characters.proofs.AlgebraLaws.{at_commuting, order_of_places, product_at_places, column_at_places, at_commuting_pairs}

module _ {A G S K L : Type 0} (T : Setting A G) (C : Classes T.group) (X : Simples T C S) (E : Finite S) (a : G)
    (Q : Group K) (F : Finite K) (element : K → G) (I : IsSubgroup T.group (λ x. commute T x a) Q element)
    (N : Finite L) (simple : L → S) (part : IsPart (λ i. equals T.finite a (X.at i)) simple)
    (good : GoodTableAtPlaces X a Q F element N simple) where
  -- what holds at each row holds at each simple of the class
  at_simples : (holds : S → Type 0) → ((r : L) → holds (simple r)) → (i : S) → X.at i ≡ a → holds i
  at_simples holds at i h = at_elements (λ i. equals T.finite a (X.at i)) simple part holds at i (equals_of T.finite a (X.at i) (sym h))

  at_places : (holds : G → Type 0) → ((p : K) → holds (element p)) → (x : G) → Commuting T x a → holds x
  at_places = at_commuting T a Q element I

  -- multiples by the number of places are products with the order of the centraliser
  by_order : (u : A) → multiple T.ring F.size u ≡ T.ring.mul (centraliser_order T a) u
  by_order u = multiple_is_mul T.ring F.size u ∙ ap (λ m. T.ring.mul m u) (sym (order_of_places T a Q F element I))

  product_is : (r s : L) (p : K) →
      centraliser_product T a (λ y. T.involution.bar (X.value (simple r) y)) (λ y. T.involution.bar (X.value (simple s) y)) (element p) ≡ row_product X a Q F element N simple r s p
  product_is r s p = product_at_places T a Q F element I (λ y. T.involution.bar (X.value (simple r) y)) (λ y. T.involution.bar (X.value (simple s) y)) p

  pub good_at_elements : GoodTable X E a
  good_at_elements = record {
    unitary = λ i x same. at_simples
        (λ i. (x : G) → Commuting T x a → X.value i (T.group.inv x) ≡ T.ring.mul (slant_root T a x (T.group.inv x)) (T.involution.bar (X.value i x)))
        (λ r. at_places (λ x. X.value (simple r) (T.group.inv x) ≡ T.ring.mul (slant_root T a x (T.group.inv x)) (T.involution.bar (X.value (simple r) x)))
        (λ p. subst (λ z. X.value (simple r) z ≡ T.ring.mul (slant_root T a (element p) z) (T.involution.bar (X.value (simple r) (element p))))
        (element_inv T.group (λ x. commute T x a) Q element I p) (good.unitary r p)))
        i same x;
    product_self = λ i x same. at_simples
        (λ i. (x : G) → Commuting T x a
        → multiple T.ring (X.degree i) (centraliser_product T a (λ y. T.involution.bar (X.value i y)) (λ y. T.involution.bar (X.value i y)) x)
        ≡ T.ring.mul (centraliser_order T a) (T.involution.bar (X.value i x)))
        (λ r. at_places
        (λ x. multiple T.ring (X.degree (simple r)) (centraliser_product T a (λ y. T.involution.bar (X.value (simple r) y)) (λ y. T.involution.bar (X.value (simple r) y)) x)
        ≡ T.ring.mul (centraliser_order T a) (T.involution.bar (X.value (simple r) x)))
        (λ p. ap (multiple T.ring (X.degree (simple r))) (product_is r r p) ∙ good.product_self r p ∙ by_order _))
        i same x;
    product_other = λ i j x same_i same_j apart. at_simples
        (λ i. (j : S) → X.at j ≡ a → (i ≡ j → ⊥) → (x : G) → Commuting T x a
        → centraliser_product T a (λ y. T.involution.bar (X.value i y)) (λ y. T.involution.bar (X.value j y)) x ≡ T.ring.nought)
        (λ r. at_simples
        (λ j. (simple r ≡ j → ⊥) → (x : G) → Commuting T x a
        → centraliser_product T a (λ y. T.involution.bar (X.value (simple r) y)) (λ y. T.involution.bar (X.value j y)) x ≡ T.ring.nought)
        (λ s differ. at_places
        (λ x. centraliser_product T a (λ y. T.involution.bar (X.value (simple r) y)) (λ y. T.involution.bar (X.value (simple s) y)) x ≡ T.ring.nought)
        (λ p. product_is r s p ∙ good.product_other r s p (λ e. differ (ap simple e)))))
        i same_i j same_j apart x;
    sum = at_places
        (λ x. total T.ring E (λ i. pick T.ring (equals T.finite a (X.at i)) (multiple T.ring (X.degree i) (T.involution.bar (X.value i x))))
        ≡ pick T.ring (equals T.finite x T.group.one) (centraliser_order T a))
        (λ p. sym (total_places (λ i. equals T.finite a (X.at i)) simple part T.ring E N (λ i. multiple T.ring (X.degree i) (T.involution.bar (X.value i (element p)))))
        ∙ good.sum p
        ∙ ap₂ (pick T.ring)
        (equals_at_places (λ x. commute T x a) element I.part T.finite F p Q.one
        ∙ ap (equals T.finite (element p)) (element_one T.group (λ x. commute T x a) Q element I))
        (sym (order_of_places T a Q F element I)));
    column = at_commuting_pairs T a Q element I
        (λ x y. total T.ring E (λ i. pick T.ring (equals T.finite a (X.at i)) (T.ring.mul (T.involution.bar (X.value i x)) (X.value i y)))
        ≡ total T.ring T.finite (λ c. pick T.ring (commute T c a)
        (pick T.ring (equals T.finite (T.group.op (T.group.op c x) (T.group.inv c)) y) (T.involution.bar (conjugation_root T a c x)))))
        (λ p q. sym (total_places (λ i. equals T.finite a (X.at i)) simple part T.ring E N (λ i. T.ring.mul (T.involution.bar (X.value i (element p))) (X.value i (element q))))
        ∙ good.column p q ∙ sym (column_at_places T a Q F element I p q));
  }
