-- Fusion numbers are tensor multiplicities, and are given by S.
use Rattle.characters.proofs.OrthogonalityLaws.{of_whole}
use Rattle.characters.proofs.Names.{◌≡◌, ℕ, sym, ◌∙◌, ap, ap₂, IsTorsionFree, pick, multiple, Finite, equals, total, product_rules, mul_left_comm, pick_map, multiple_map, mul_multiple, multiple_mul, mul_pick, total_ext, total_exchange, total_pick, mul_total, total_mul, total_map, Setting, Classes, Commuting, Simples, group_order, GoodTables, in_class, full_character, s_sum, dimension, tensor_character, fusion_sum, AreFusionNumbers}
use Rattle.characters.proofs.SLaws.{dimension_is, degree_bar}
use Rattle.characters.proofs.Unitarity.{s_unitary}
use Rattle.characters.proofs.FusionLaws.{decomposition}
use Rattle.characters.proofs.VerlindeLaws.{cancel_group_order, verlinde}

module _ {A G S : Type 0} (T : Setting A G) (C : Classes T.group) (X : Simples T C S) where
  -- dimensions are their own conjugates
  pub dimension_bar : (i : S) → T.involution.bar (dimension T C X i) ≡ dimension T C X i
  dimension_bar i =
      ap T.involution.bar (dimension_is T C X i)
      ∙ total_map T.ring T.ring T.finite T.involution.bar T.involution.bar_add _
      ∙ total_ext T.ring T.finite _ _ (λ g. pick_map T.ring T.ring T.involution.bar T.involution.bar_add (in_class T C X i g) _ ∙ ap (pick T.ring (in_class T C X i g)) (degree_bar T C X i))
      ∙ sym (dimension_is T C X i)

  module _ (E : Finite S) (good : GoodTables X E) (free : IsTorsionFree T.ring) (number : S → S → S → ℕ) (numbers : AreFusionNumbers T C X number) where
    -- a product with a fusion sum is one with the order of the group
    with_number : (i j k : S) (u : A) → T.ring.mul (fusion_sum T C X i j k) u ≡ T.ring.mul (group_order T) (multiple T.ring (number i j k) u)
    with_number i j k u =
        ap (λ f. T.ring.mul f u) (numbers.whole i j k) ∙ multiple_mul T.ring (number i j k) (group_order T) u ∙ sym (mul_multiple T.ring (number i j k) (group_order T) u)

    with_numbers : (i j : S) (u : S → A) →
        total T.ring E (λ k. T.ring.mul (fusion_sum T C X i j k) (u k)) ≡ T.ring.mul (group_order T) (total T.ring E (λ k. multiple T.ring (number i j k) (u k)))
    with_numbers i j u = total_ext T.ring E _ _ (λ k. with_number i j k (u k)) ∙ sym (mul_total T.ring E (group_order T) _)

    -- the tensor product of i and j is the sum of the full characters, each as often as its fusion number says
    pub tensor_multiplicities : (i j : S) (g x : G) → Commuting T g x →
        tensor_character T C X i j g x ≡ total T.ring E (λ k. multiple T.ring (number i j k) (full_character T C X k g x))
    tensor_multiplicities i j g x commuting =
        cancel_group_order T C free _ _ (sym (decomposition T C X E good i j g x commuting) ∙ with_numbers i j (λ k. full_character T C X k g x))

    -- the product of two entries of a column of S
    pub s_products : (i j l : S) →
        T.ring.mul (s_sum T C X i l) (s_sum T C X j l) ≡ T.ring.mul (dimension T C X l) (total T.ring E (λ k. multiple T.ring (number i j k) (s_sum T C X k l)))
    s_products i j l =
        sym (T.involution.bar_bar _)
        ∙ ap T.involution.bar (T.involution.bar_mul _ _ ∙ conjugate)
        ∙ T.involution.bar_mul _ _
        ∙ ap₂ T.ring.mul (dimension_bar l)
        (total_map T.ring T.ring E T.involution.bar T.involution.bar_add _
        ∙ total_ext T.ring E _ _ (λ k. multiple_map T.ring T.ring T.involution.bar T.involution.bar_add (number i j k) _ ∙ ap (multiple T.ring (number i j k)) (T.involution.bar_bar (s_sum T C X k l))))
      where
        conjugate : T.ring.mul (T.involution.bar (s_sum T C X i l)) (T.involution.bar (s_sum T C X j l))
            ≡ T.ring.mul (dimension T C X l) (total T.ring E (λ k. multiple T.ring (number i j k) (T.involution.bar (s_sum T C X k l))))
        conjugate =
            cancel_group_order T C free _ _
            (verlinde T C X E good free i j l
            ∙ ap (T.ring.mul (dimension T C X l)) (with_numbers i j (λ k. T.involution.bar (s_sum T C X k l)))
            ∙ mul_left_comm T.ring (dimension T C X l) (group_order T) _)

    -- and with a third, for numbers that make all dimensions one product
    pub number_by_s : (product : A) (cofactor : S → A) → ((l : S) → T.ring.mul (cofactor l) (dimension T C X l) ≡ product) → (i j k : S) →
        total T.ring E (λ l. T.ring.mul (cofactor l) (T.ring.mul (T.ring.mul (s_sum T C X i l) (s_sum T C X j l)) (T.involution.bar (s_sum T C X k l))))
        ≡ multiple T.ring (number i j k) (T.ring.mul product (T.ring.mul (group_order T) (group_order T)))
    number_by_s product cofactor divides i j k =
        total_ext T.ring E _ _
        (λ l. ap (λ u. T.ring.mul (cofactor l) (T.ring.mul u (T.involution.bar (s_sum T C X k l)))) (s_products i j l)
        ∙ sort (cofactor l) (dimension T C X l) _ (T.involution.bar (s_sum T C X k l))
        ∙ ap₂ T.ring.mul (divides l) (total_mul T.ring E _ (T.involution.bar (s_sum T C X k l))))
        ∙ sym (mul_total T.ring E product _)
        ∙ ap (T.ring.mul product)
        (total_exchange T.ring E E _
        ∙ total_ext T.ring E _ _
        (λ m. total_ext T.ring E _ _ (λ l. multiple_mul T.ring (number i j m) (s_sum T C X m l) (T.involution.bar (s_sum T C X k l)) ∙ sym (of_whole T.ring (number i j m) _))
        ∙ sym (mul_total T.ring E (multiple T.ring (number i j m) T.ring.one) _)
        ∙ ap (T.ring.mul (multiple T.ring (number i j m) T.ring.one)) (s_unitary T C X E good free m k)
        ∙ mul_pick T.ring (equals E m k) _ _)
        ∙ total_pick T.ring E k (λ m. T.ring.mul (multiple T.ring (number i j m) T.ring.one) (T.ring.mul (group_order T) (group_order T))))
        ∙ ap (T.ring.mul product) (of_whole T.ring (number i j k) _)
        ∙ mul_multiple T.ring (number i j k) product _
      where
        sort : (c d u v : A) → T.ring.mul c (T.ring.mul (T.ring.mul d u) v) ≡ T.ring.mul (T.ring.mul c d) (T.ring.mul u v)
        sort c d u v = simp (product_rules, T.ring)
