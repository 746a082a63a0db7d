-- S is unitary.
use Rattle.characters.proofs.Names.{◌≡◌, sym, ◌∙◌, ap, ap₂, IsTorsionFree, pick, Finite, equals, total, conj, mul_pick, total_ext, Setting, Classes, transport_root, Simples, group_order, GoodTables, inner_product, IsCovariant, full_character, s_sum, pair_term}
use Rattle.characters.proofs.SettingLaws.{inverse_unique, transport_roots_inverse, transport_root_bar, equals_symmetric}
use Rattle.characters.proofs.PairLaws.{pair_sum_ext, pair_sum_swap, inner_product_is}
use Rattle.characters.proofs.CharacterLaws.{covariance}
use Rattle.characters.proofs.SLaws.{s_sum_is, pair_term_is}
use Rattle.characters.proofs.OrthogonalityLaws.{first_orthogonality}
use Rattle.characters.proofs.Expansion.{inner_product_by_simples}

module _ {A G S : Type 0} (T : Setting A G) (C : Classes T.group) (X : Simples T C S) where
  -- the conjugate of the full character of i with its arguments exchanged
  abbrev pub exchanged : S → G → G → A
  exchanged i h g = T.involution.bar (full_character T C X i g h)

  pub exchanged_covariant : (i : S) → IsCovariant T (exchanged i)
  exchanged_covariant i = record {
    covariant = λ h g c commuting.
        ap T.involution.bar (covariance T C X i g h c (sym commuting))
        ∙ T.involution.bar_mul _ _
        ∙ ap (λ z. T.ring.mul z (T.involution.bar (full_character T C X i (conj T.group g c) (conj T.group h c))))
        (inverse_unique T (transport_root T g h c) _ _ (transport_root_bar T g h c) (transport_roots_inverse T g h c (sym commuting)));
  }

  -- S is made of inner products with full characters
  pub s_sum_inner : (i j : S) → s_sum T C X i j ≡ inner_product T (exchanged i) (full_character T C X j)
  s_sum_inner i j =
      s_sum_is T C X i j ∙ pair_sum_swap T (pair_term T C X i j)
      ∙ pair_sum_ext T _ _ (λ h g c. pair_term_is T C X i j g h)
      ∙ sym (inner_product_is T (exchanged i) (full_character T C X j))

  pub exchanged_inner : (i j : S) → inner_product T (exchanged i) (exchanged j) ≡ inner_product T (full_character T C X j) (full_character T C X i)
  exchanged_inner i j =
      inner_product_is T (exchanged i) (exchanged j)
      ∙ pair_sum_swap T _
      ∙ pair_sum_ext T _ _ (λ g h c. ap (T.ring.mul (T.involution.bar (full_character T C X i g h))) (T.involution.bar_bar (full_character T C X j g h)) ∙ T.ring.mul_comm _ _)
      ∙ sym (inner_product_is T (full_character T C X j) (full_character T C X i))

  -- S is unitary
  module _ (E : Finite S) (good : GoodTables X E) (free : IsTorsionFree T.ring) where
    pub s_unitary : (i j : S) →
        total T.ring E (λ l. T.ring.mul (s_sum T C X i l) (T.involution.bar (s_sum T C X j l)))
        ≡ pick T.ring (equals E i j) (T.ring.mul (group_order T) (group_order T))
    s_unitary i j =
        total_ext T.ring E _ _ (λ l. ap₂ (λ u v. T.ring.mul u (T.involution.bar v)) (s_sum_inner i l) (s_sum_inner j l))
        ∙ inner_product_by_simples T C X E good (exchanged i) (exchanged j) (exchanged_covariant i)
        ∙ ap (T.ring.mul (group_order T)) (exchanged_inner i j ∙ first_orthogonality T C X E good free j i ∙ ap (λ b. pick T.ring b (group_order T)) (equals_symmetric E j i))
        ∙ mul_pick T.ring (equals E i j) (group_order T) (group_order T)
