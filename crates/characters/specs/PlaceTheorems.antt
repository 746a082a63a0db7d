-- The laws of places that the crate's law functions carry. As in the other laws, the ring is taken on the natural numbers, and the group,
-- the places, the simples and the rows on the numbers below their counts.
use Rattle.std.specs.Prelude.{◌≡◌, ℕ, Bool}
use Rattle.algebra.specs.Structures.{CommRing}
use Rattle.algebra.specs.Sums.{pick}
use Rattle.algebra.specs.Totals.{Finite, equals, total}
use Rattle.algebra.specs.Groups.{Group}
use Rattle.algebra.specs.Below.{Below}
use Rattle.characters.specs.Setting.{Setting, Classes, Commuting, commute}
use Rattle.characters.specs.PhaseRoots.{slant_root, conjugation_root}
use Rattle.characters.specs.Simples.{Simples}
use Rattle.characters.specs.Parts.{IsPart, IsSubgroup}
use Rattle.characters.specs.Tables.{GoodTable}
use Rattle.characters.specs.PlaceTables.{GoodTableAtPlaces}

-- a total over the places of a part is one over the elements that pass its test
abbrev pub TotalsOverPlaces : Type 0
TotalsOverPlaces =
    (n m : ℕ) (inside : Below n → Bool) (element : Below m → Below n) → IsPart inside element → (R : CommRing ℕ) (F : Finite (Below n)) (E : Finite (Below m)) (f : Below n → ℕ)
    → total R E (λ p. f (element p)) ≡ total R F (λ x. pick R (inside x) (f x))

-- an element of the algebra of a that commutes with each u_y, as equations of places, is carried by conjugation in the centraliser of a
abbrev pub CentralAtPlaces : Type 0
CentralAtPlaces =
    (n m : ℕ) (T : Setting ℕ (Below n)) (a : Below n) (Q : Group (Below m)) (element : Below m → Below n)
    → IsSubgroup T.group (λ x. commute T x a) Q element → (z : Below n → ℕ)
    → ((y x : Below m)
    → T.ring.mul (slant_root T a (element y) (element (Q.op (Q.inv y) x))) (z (element (Q.op (Q.inv y) x)))
    ≡ T.ring.mul (slant_root T a (element (Q.op x (Q.inv y))) (element y)) (z (element (Q.op x (Q.inv y)))))
    → (c x : Below n) → Commuting T c a → Commuting T x a → z (T.group.op (T.group.op c x) (T.group.inv c)) ≡ T.ring.mul (conjugation_root T a c x) (z x)

-- a good table over the places of the centraliser of a is one over its elements
abbrev pub GoodAtElements : Type 0
GoodAtElements =
    (n s m r : ℕ) (T : Setting ℕ (Below n)) (C : Classes T.group) (X : Simples T C (Below s)) (E : Finite (Below s)) (a : Below n)
    (Q : Group (Below m)) (F : Finite (Below m)) (element : Below m → Below n) → IsSubgroup T.group (λ x. commute T x a) Q element
    → (N : Finite (Below r)) (simple : Below r → Below s) → IsPart (λ i. equals T.finite a (X.at i)) simple
    → GoodTableAtPlaces X a Q F element N simple → GoodTable X E a
