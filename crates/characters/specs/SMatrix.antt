-- The matrix S of a twisted quantum double.
use Rattle.algebra.specs.Sums.{pick}
use Rattle.algebra.specs.Totals.{total}
use Rattle.characters.specs.Setting.{Setting, Classes}
use Rattle.characters.specs.Simples.{Simples}
use Rattle.characters.specs.Pairs.{pair_sum}
use Rattle.characters.specs.FullCharacters.{in_class, full_character}

module _ {A G S : Type 0} (T : Setting A G) (C : Classes T.group) (X : Simples T C S) where
  -- the term of S at g and h: the conjugate of the full character of i at g and h times that of j at h and g
  unfoldable pub pair_term : S → S → G → G → A
  pair_term i j g h = T.ring.mul (T.involution.bar (full_character T C X i g h)) (T.involution.bar (full_character T C X j h g))

  -- the order of the group times the entry of S at i and j: the sum of the terms over all g and h with g h = h g
  -- (Coste, Gannon, Ruelle 2000)
  unfoldable pub s_sum : S → S → A
  s_sum i j = pair_sum T (pair_term i j)

  -- the dimension: the size of the class times the degree, as an element of the ring (textbook)
  unfoldable pub dimension : S → A
  dimension i = total T.ring T.finite (λ g. pick T.ring (in_class T C X i g) (X.value i T.group.one))
