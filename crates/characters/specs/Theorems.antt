-- The laws of full characters and of S that the crate's law functions carry. The ring is taken on the natural numbers, as every
-- countably infinite one is up to names, and the group and the simples on the numbers below their counts.
use Rattle.std.specs.Prelude.{◌≡◌, ℕ}
use Rattle.algebra.specs.Sums.{IsTorsionFree, pick}
use Rattle.algebra.specs.Totals.{Finite, equals, total}
use Rattle.algebra.specs.Groups.{conj}
use Rattle.algebra.specs.Below.{Below}
use Rattle.characters.specs.Setting.{Setting, Classes, Commuting}
use Rattle.characters.specs.PhaseRoots.{transport_root}
use Rattle.characters.specs.Simples.{Simples}
use Rattle.characters.specs.Pairs.{inner_product, IsCovariant}
use Rattle.characters.specs.Tables.{group_order, centraliser_sum, centraliser_order, GoodTables}
use Rattle.characters.specs.FullCharacters.{full_character}

-- the sum over the centraliser of the conjugates of the values of i with the values of j, of one class: its order for j = i, else nought
abbrev pub RowsOrthogonal : Type 0
RowsOrthogonal =
    (n s : ℕ) (T : Setting ℕ (Below n)) (C : Classes T.group) (X : Simples T C (Below s)) (E : Finite (Below s)) → GoodTables X E → IsTorsionFree T.ring
    → (i j : Below s) → X.at i ≡ X.at j
    → centraliser_sum T (X.at i) (λ y. T.ring.mul (T.involution.bar (X.value i y)) (X.value j y))
    ≡ pick T.ring (equals E i j) (centraliser_order T (X.at i))

-- the sum over the simples of the full character at one pair that commutes with its conjugate at another: that of the transport roots
-- along the elements that carry the one pair to the other
abbrev pub PairsOrthogonal : Type 0
PairsOrthogonal =
    (n s : ℕ) (T : Setting ℕ (Below n)) (C : Classes T.group) (X : Simples T C (Below s)) (E : Finite (Below s)) → GoodTables X E
    → (g x h y : Below n) → Commuting T g x → Commuting T h y
    → total T.ring E (λ k. T.ring.mul (full_character T C X k g x) (T.involution.bar (full_character T C X k h y)))
    ≡ total T.ring T.finite (λ c. pick T.ring (equals T.finite h (conj T.group g c)) (pick T.ring (equals T.finite y (conj T.group x c)) (transport_root T g x c)))

-- the order of the group times a covariant function is the sum over the simples of its inner products with the full characters, times these
abbrev pub CharactersSpan : Type 0
CharactersSpan =
    (n s : ℕ) (T : Setting ℕ (Below n)) (C : Classes T.group) (X : Simples T C (Below s)) (E : Finite (Below s)) → GoodTables X E
    → (f : Below n → Below n → ℕ) → IsCovariant T f → (g x : Below n) → Commuting T g x
    → total T.ring E (λ k. T.ring.mul (inner_product T f (full_character T C X k)) (full_character T C X k g x)) ≡ T.ring.mul (group_order T) (f g x)
