-- Tensor products of the simples of a twisted quantum double.
use Rattle.std.specs.Prelude.{◌≡◌, ℕ}
use Rattle.algebra.specs.Sums.{pick, multiple}
use Rattle.algebra.specs.Totals.{equals, total}
use Rattle.characters.specs.Setting.{Setting, Classes, commute}
use Rattle.characters.specs.PhaseRoots.{coproduct_root}
use Rattle.characters.specs.Simples.{Simples}
use Rattle.characters.specs.Tables.{group_order}
use Rattle.characters.specs.Pairs.{inner_product}
use Rattle.characters.specs.FullCharacters.{full_character}

module _ {A G S : Type 0} (T : Setting A G) (C : Classes T.group) (X : Simples T C S) where
  -- the character of the tensor product of i and j at g and x: the sum over h and k that commute with x, with h k = g, of ga_x(h,k) times the
  -- full characters of i at h and x and of j at k and x (by the coproduct of Dijkgraaf, Pasquier, Roche 1990)
  unfoldable pub tensor_character : S → S → G → G → A
  tensor_character i j g x =
      total T.ring T.finite (λ h. total T.ring T.finite (λ k. pick T.ring (equals T.finite g (T.group.op h k)) (pick T.ring (commute T h x) (pick T.ring (commute T k x)
      (T.ring.mul (coproduct_root T x h k) (T.ring.mul (full_character T C X i h x) (full_character T C X j k x)))))))

  -- the order of the group times the fusion number of i, j and k: the inner product of the tensor product with k (textbook)
  unfoldable pub fusion_sum : S → S → S → A
  fusion_sum i j k = inner_product T (tensor_character i j) (full_character T C X k)

  -- the fusion numbers: whole numbers, whose products with the order of the group are the fusion sums (textbook)
  pub record AreFusionNumbers (number : S → S → S → ℕ) : Type 0 where
    pub whole : (i j k : S) → fusion_sum i j k ≡ multiple T.ring (number i j k) (group_order T)
