-- The tensor characters and fusion sums by good tables are those of the twisted quantum double.
use Rattle.transport.proofs.Names.{◌≡◌, ◌<◌, ℕ, refl, sym, ap, ap₂, ◌∙◌, pick, equals, conj, Below, below_equal, pick_of, total_ext, total_pick, equals_true, equals_of, CyclotomicValue, root, conjugate, multiplied, conjugated, where_so, Setting, Classes, Commuting, same_test, commute_of, commuting_product, inner_product_is, gamma, coproduct_phase, commuting_test, coproduct_root, character, commuting_inv, tensor_character_is, fusion_sum_is, SimplesOver, count, AreSimples, root_exponent, full_character, commute, IsElement, Commute, left_quotient, tensor_term, tensor_character, fusion_sum}
use Rattle.algebra.proofs.GroupLaws.{inv_op_op, op_inv_op}
use Rattle.characters.specs.Fusion.{tensor_character as abstract_tensor, fusion_sum as abstract_fusion}
use Rattle.transport.proofs.Doubles.{double_classes}
use Rattle.transport.proofs.DoubleSimples.{setting, simples}
use Rattle.transport.proofs.CharacterLaws.{character_is}
use Rattle.transport.proofs.PairSums.{element_sum, where_commuting, pair_sum_is}

module _ (k : ℕ) (s : SimplesOver) (S : AreSimples k s) where
  abbrev Element : Type 0
  Element = Below s.cocycle.group.order

  abbrev T : Setting (CyclotomicValue k) (Below s.cocycle.group.order)
  T = setting k s S

  abbrev C : Classes (setting k s S).group
  C = double_classes s.cocycle S.cocycle

  coproduct_is : (x g h : Element) → coproduct_root T x g h ≡ root k (root_exponent k s.cocycle (gamma s.cocycle x.value g.value h.value))
  unfolding coproduct_root coproduct_phase gamma conj
  coproduct_is x g h = refl

  -- the second factor of g
  abbrev other : Element → Element → Element
  other g h = T.group.op (T.group.inv h) g

  factor_test : (g h l : Element) → equals T.finite g (T.group.op h l) ≡ equals T.finite l (other g h)
  factor_test g h l =
      same_test (equals T.finite g (T.group.op h l)) (equals T.finite l (other g h))
      (λ e. equals_of T.finite l (other g h) (sym (ap (T.group.op (T.group.inv h)) (equals_true T.finite g (T.group.op h l) e) ∙ inv_op_op T.group h l)))
      (λ e. equals_of T.finite g (T.group.op h l) (sym (ap (T.group.op h) (equals_true T.finite l (other g h) e) ∙ op_inv_op T.group h g)))

  other_commutes : (g x h : Element) → Commuting T g x → Commuting T h x → Commuting T (other g h) x
  other_commutes g x h first second = commuting_product T (T.group.inv h) g x (commuting_inv T h x second) first

  term_is : (i j : Below (count k s)) (g x h : Element) → Commuting T g x → Commuting T h x
      → T.ring.mul (coproduct_root T x h (other g h)) (T.ring.mul (character T C (simples k s S) i h x) (character T C (simples k s S) j (other g h) x))
      ≡ (tensor_term k s i.value j.value g.value x.value h.value).value
  term_is i j g x h first second =
      ap₂ T.ring.mul (coproduct_is x h (other g h)) (ap₂ T.ring.mul (character_is k s S i h x second) (character_is k s S j (other g h) x (other_commutes g x h first second)))

  -- the sum over two elements whose product is g is one over the first
  pub tensor_is : (i j : Below (count k s)) (g x : Element) → Commuting T g x
      → abstract_tensor T C (simples k s S) i j g x ≡ (tensor_character k s i.value j.value g.value x.value).value
  tensor_is i j g x commuting =
      tensor_character_is T C (simples k s S) i j g x
      ∙ element_sum k s S _ (λ h. (where_so k (commute s.cocycle.group h x.value) (tensor_term k s i.value j.value g.value x.value h)).value)
      (λ h.
      total_ext T.ring T.finite _ _ (λ l. ap (λ b. pick T.ring b (pick T.ring (commuting_test T h x) (pick T.ring (commuting_test T l x) (part h l)))) (factor_test g h l))
      ∙ total_pick T.ring T.finite (other g h) (λ l. pick T.ring (commuting_test T h x) (pick T.ring (commuting_test T l x) (part h l)))
      ∙ where_commuting k s S h x _ (tensor_term k s i.value j.value g.value x.value h.value)
      (λ second. pick_of T.ring _ _ (commute_of T (other g h) x (other_commutes g x h commuting second)) ∙ term_is i j g x h commuting second))
    where
      part : Element → Element → CyclotomicValue k
      part h l = T.ring.mul (coproduct_root T x h l) (T.ring.mul (character T C (simples k s S) i h x) (character T C (simples k s S) j l x))

  pub fusion_is : (i j l : Below (count k s)) → abstract_fusion T C (simples k s S) i j l ≡ (fusion_sum k s i.value j.value l.value).value
  fusion_is i j l =
      fusion_sum_is T C (simples k s S) i j l ∙ inner_product_is T _ _
      ∙ pair_sum_is k s S _ (λ g x. multiplied k (tensor_character k s i.value j.value g x) (conjugated k (full_character k s l.value g x)))
      (λ g x commuting. ap₂ (λ u v. T.ring.mul u (conjugate k v)) (tensor_is i j g x commuting) (character_is k s S l g x commuting))

-- where g and h commute with x, so does h^-1 g
pub quotient_commutes : (k : ℕ) (s : SimplesOver) → AreSimples k s → (g x h : ℕ) → IsElement s g → IsElement s x → IsElement s h → Commute s.cocycle.group g x → Commute s.cocycle.group h x
    → (left_quotient s.cocycle.group h g < s.cocycle.group.order) × Commute s.cocycle.group (left_quotient s.cocycle.group h g) x
quotient_commutes k s S g x h g_below x_below h_below first second =
    let G : Below s.cocycle.group.order = record { value = g; below = g_below } in
    let X : Below s.cocycle.group.order = record { value = x; below = x_below } in
    let H : Below s.cocycle.group.order = record { value = h; below = h_below } in (
      ((setting k s S).group.op ((setting k s S).group.inv H) G).below,
      ap (λ (z : Below s.cocycle.group.order). z.value) (other_commutes k s S G X H (below_equal _ _ first) (below_equal _ _ second)),
    )
