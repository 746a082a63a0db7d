-- What is known of all fusion numbers once each fusion sum is whole.
use Rattle.fusion.proofs.Names.{◌≡◌, ℕ, ◌*◌, ◌≤◌, ◌<◌, None, ap, ◌∙◌, sym, subst, whole, SimplesOver, count, AreSimples, IsFusionRule, numbers_are_rule, fusion_number, whole_fault, HoldsSmallNumbers}
use Rattle.fusion.proofs.Faults.{pair_numbers_of, pair_whole}
use Rattle.fusion.proofs.Bounds.{number_small}

module _ (k : ℕ) (s : SimplesOver) (S : AreSimples k s) (none : whole_fault k s ≡ None) (number : ℕ → ℕ → ℕ → ℕ)
    (numbers : (i j l : ℕ) → i < count k s → j < count k s → l < count k s → number i j l ≡ fusion_number k s i j l) where
  pub are_rule : IsFusionRule k s number
  are_rule =
      numbers_are_rule k s S number
      (λ i j l i_below j_below l_below.
      pair_numbers_of k s i j (pair_whole k s none i j i_below j_below) l l_below ∙ ap (λ v. whole k (s.cocycle.group.order * v)) (sym (numbers i j l i_below j_below l_below)))

  pub are_small : s.cocycle.group.order ≤ 60 → HoldsSmallNumbers k s number
  are_small order = record {
    small = λ i j l i_below j_below l_below.
        subst (λ v. v ≤ 3600) (sym (numbers i j l i_below j_below l_below)) (number_small k s S order i j l i_below j_below l_below (pair_whole k s none i j i_below j_below));
  }
