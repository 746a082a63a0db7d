-- The terms of fusion sums are the same at all conjugates of a pair of elements that commute.
use Rattle.fusion.proofs.Names.{◌≡◌, ℕ, ◌<◌, sym, ap, ap₂, ◌∙◌, CyclotomicValue, SimplesOver, count, AreSimples, conjugate_value, double_classes, conjugate_value_is, setting, simples, character_is, tensor_is, inner_term}
use Rattle.algebra.specs.Groups.{conj}
use Rattle.algebra.specs.Below.{Below, below_equal}
use Rattle.algebra.proofs.GroupLaws.{op_assoc, inv_inv, conj_is}
use Rattle.classes.specs.Conjugacy.{conjugate}
use Rattle.pair_orbits.specs.Laws.{IsInvariant}
use Rattle.slant.proofs.Instances.{group}
use Rattle.characters.specs.Setting.{Setting, Classes, Commuting}
use Rattle.characters.specs.PhaseRoots.{transport_root}
use Rattle.characters.specs.FullCharacters.{full_character as character}
use Rattle.characters.specs.Fusion.{tensor_character as abstract_tensor}
use Rattle.characters.proofs.SettingLaws.{commuting_conj, transport_root_bar, cancel_pair}
use Rattle.characters.proofs.CharacterLaws.{covariance}
use Rattle.characters.proofs.FusionLaws.{tensor_covariant}

module _ (k : ℕ) (s : SimplesOver) (S : AreSimples k s) where
  abbrev Element : Type 0
  Element = Below s.cocycle.group.order

  abbrev C : Classes (group s.cocycle S.cocycle)
  C = double_classes s.cocycle S.cocycle

  abbrev T : Setting (CyclotomicValue k) (Below s.cocycle.group.order)
  T = setting k s S

  -- the tensor character times the conjugate of a full character
  abbrev term : Below (count k s) → Below (count k s) → Below (count k s) → Below s.cocycle.group.order → Below s.cocycle.group.order → CyclotomicValue k
  term i j l g x = T.ring.mul (abstract_tensor T C (simples k s S) i j g x) (T.involution.bar (character T C (simples k s S) l g x))

  term_is : (i j l : Below (count k s)) (g x : Element) → Commuting T g x → term i j l g x ≡ (inner_term k s i.value j.value l.value g.value x.value).value
  term_is i j l g x commuting = ap₂ (λ u v. T.ring.mul u (conjugate_value k v)) (tensor_is k s S i j g x commuting) (character_is k s S l g x commuting)

  -- both are carried by one phase, which its conjugate takes off again
  term_carried : (i j l : Below (count k s)) (g x c : Element) → Commuting T g x → term i j l g x ≡ term i j l (conj T.group g c) (conj T.group x c)
  term_carried i j l g x c commuting =
      ap₂ T.ring.mul ((tensor_covariant T C (simples k s S) i j).covariant g x c commuting)
      (ap T.involution.bar (covariance T C (simples k s S) l g x c commuting) ∙ T.involution.bar_mul _ _)
      ∙ cancel_pair T (transport_root T g x c) (T.involution.bar (transport_root T g x c)) _ _ (transport_root_bar T g x c)

  -- c g c^-1
  conjugated : (g c : Element) → (conj T.group g (T.group.inv c)).value ≡ conjugate s.cocycle.group c.value g.value
  conjugated g c =
      ap (λ (z : Element). z.value)
      (conj_is T.group g (T.group.inv c) ∙ ap (λ z. T.group.op z (T.group.op g (T.group.inv c))) (inv_inv T.group c) ∙ sym (op_assoc T.group c g (T.group.inv c)))
      ∙ conjugate_value_is s.cocycle S.cocycle c g

  pub inner_terms_invariant : (i j l : ℕ) → i < count k s → j < count k s → l < count k s → IsInvariant s.cocycle.group (λ g x. (inner_term k s i j l g x).value)
  inner_terms_invariant i j l i_below j_below l_below = record {
    same = λ c g x c_below g_below x_below commutes.
        let I : Below (count k s) = record { value = i; below = i_below } in
        let J : Below (count k s) = record { value = j; below = j_below } in
        let L : Below (count k s) = record { value = l; below = l_below } in
        let G : Below s.cocycle.group.order = record { value = g; below = g_below } in
        let X : Below s.cocycle.group.order = record { value = x; below = x_below } in
        let K : Below s.cocycle.group.order = record { value = c; below = c_below } in
        let back = T.group.inv K in
        let commuting : Commuting T G X = below_equal _ _ commutes in
        ap₂ (λ a b. (inner_term k s i j l a b).value) (sym (conjugated G K)) (sym (conjugated X K))
        ∙ sym (term_is I J L (conj T.group G back) (conj T.group X back) (commuting_conj T G X back commuting))
        ∙ sym (term_carried I J L G X back commuting) ∙ term_is I J L G X commuting;
  }
