-- Covariant functions of pairs that commute are combinations of full characters.
use Rattle.characters.proofs.Names.{◌≡◌, sym, ◌∙◌, ap, pick, Finite, equals, total, conj, product_rules, one_mul, mul_pick, total_ext, mul_total, total_mul, Setting, Classes, Commuting, transport_root, Simples, group_order, GoodTables, inner_product, IsCovariant, full_character}
use Rattle.characters.proofs.SettingLaws.{commuting_conj}
use Rattle.characters.proofs.PairLaws.{pair_sum_ext, mul_pair_sum, pair_sum_mul, bar_pair_sum, total_pair_sum, pair_sum_pick, inner_product_is}
use Rattle.characters.proofs.OrthogonalityLaws.{group_order_is}
use Rattle.characters.proofs.SecondOrthogonality.{second_orthogonality}

module _ {A G : Type 0} (T : Setting A G) where
  -- a constant over all elements
  pub total_same : (c : A) → total T.ring T.finite (λ s. c) ≡ T.ring.mul (group_order T) c
  total_same c =
      sym (ap (λ n. T.ring.mul n c) (group_order_is T) ∙ total_mul T.ring T.finite (λ s. T.ring.one) c ∙ total_ext T.ring T.finite _ _ (λ s. one_mul T.ring c))

module _ {A G S : Type 0} (T : Setting A G) (C : Classes T.group) (X : Simples T C S) (E : Finite S) (good : GoodTables X E) where
  -- a covariant function is the sum over the simples of its inner product with each full character, times that
  pub expansion : (f : G → G → A) → IsCovariant T f → (g x : G) → Commuting T g x →
      total T.ring E (λ k. T.ring.mul (inner_product T f (full_character T C X k)) (full_character T C X k g x)) ≡ T.ring.mul (group_order T) (f g x)
  expansion f covariant g x commuting =
      total_ext T.ring E _ _ (λ k. ap (λ z. T.ring.mul z (full_character T C X k g x)) (inner_product_is T f (full_character T C X k)) ∙ pair_sum_mul T _ (full_character T C X k g x))
      ∙ total_pair_sum T E _
      ∙ pair_sum_ext T _ _
      (λ h y c. total_ext T.ring E _ _ (λ k. sort (f h y) (T.involution.bar (full_character T C X k h y)) (full_character T C X k g x))
      ∙ sym (mul_total T.ring E (f h y) _)
      ∙ ap (T.ring.mul (f h y)) (second_orthogonality T C X E good g x h y commuting c)
      ∙ mul_total T.ring T.finite (f h y) _
      ∙ total_ext T.ring T.finite _ _ (λ s. mul_pick T.ring (equals T.finite h (conj T.group g s)) (f h y) _ ∙ ap (pick T.ring (equals T.finite h (conj T.group g s))) (mul_pick T.ring (equals T.finite y (conj T.group x s)) (f h y) (transport_root T g x s))))
      ∙ sym (total_pair_sum T T.finite _)
      ∙ total_ext T.ring T.finite _ _
      (λ s. pair_sum_pick T (conj T.group g s) (conj T.group x s) (λ h y. T.ring.mul (f h y) (transport_root T g x s)) (commuting_conj T g x s commuting)
      ∙ T.ring.mul_comm _ _ ∙ sym (covariant.covariant g x s commuting))
      ∙ total_same T (f g x)
    where
      sort : (u v z : A) → T.ring.mul (T.ring.mul u v) z ≡ T.ring.mul u (T.ring.mul z v)
      sort u v z = simp (product_rules, T.ring)

  -- the inner product of a covariant function with another, by their inner products with the full characters
  pub inner_product_by_simples : (f r : G → G → A) → IsCovariant T f →
      total T.ring E (λ k. T.ring.mul (inner_product T f (full_character T C X k)) (T.involution.bar (inner_product T r (full_character T C X k))))
      ≡ T.ring.mul (group_order T) (inner_product T f r)
  inner_product_by_simples f r covariant =
      total_ext T.ring E _ _
      (λ k. ap (T.ring.mul (inner_product T f (full_character T C X k))) (ap T.involution.bar (inner_product_is T r (full_character T C X k)) ∙ bar_pair_sum T _)
      ∙ mul_pair_sum T (inner_product T f (full_character T C X k)) _)
      ∙ total_pair_sum T E _
      ∙ pair_sum_ext T _ _
      (λ g x c. total_ext T.ring E _ _
      (λ k. ap (T.ring.mul (inner_product T f (full_character T C X k))) (T.involution.bar_mul _ _ ∙ ap (T.ring.mul (T.involution.bar (r g x))) (T.involution.bar_bar (full_character T C X k g x)))
      ∙ sort (inner_product T f (full_character T C X k)) (T.involution.bar (r g x)) (full_character T C X k g x))
      ∙ sym (total_mul T.ring E _ (T.involution.bar (r g x)))
      ∙ ap (λ z. T.ring.mul z (T.involution.bar (r g x))) (expansion f covariant g x c)
      ∙ T.ring.mul_assoc _ _ _)
      ∙ sym (mul_pair_sum T (group_order T) _)
      ∙ ap (T.ring.mul (group_order T)) (sym (inner_product_is T f r))
    where
      sort : (u v z : A) → T.ring.mul u (T.ring.mul v z) ≡ T.ring.mul (T.ring.mul u z) v
      sort u v z = simp (product_rules, T.ring)
