-- The laws that the crate's law functions carry. The rings are taken on the natural numbers, as every countably infinite one is up
-- to names.
use Rattle.std.specs.Prelude.{◌≡◌, ◌≢◌, ℕ, List, length}
use Rattle.algebra.specs.Structures.{CommRing}
use Rattle.algebra.specs.Fields.{Field}
use Rattle.algebra.specs.Sums.{sum_below}
use Rattle.splitting_theory.specs.Splitting.{IsFixed, ZeroTest, number, part, pieces, IsSplitting}
use Rattle.splitting_theory.specs.Algebras.{HasBasis, IsCharacter, HasValues, Among, AreDependent}

-- the parts of an idempotent e at the numbers below q: k multiplies each by its number, each is idempotent, and they add up to e
abbrev pub PartsAct : Type 0
PartsAct = (Z : CommRing ℕ) (q : ℕ) → IsFixed Z q → (k e : ℕ) (v : ℕ) → Z.mul k (part Z q k e v) ≡ Z.mul (number Z v) (part Z q k e v)

abbrev pub PartsIdempotent : Type 0
PartsIdempotent = (Z : CommRing ℕ) (q : ℕ) → IsFixed Z q → (k e : ℕ) (v : ℕ) → Z.mul e e ≡ e → Z.mul (part Z q k e v) (part Z q k e v) ≡ part Z q k e v

abbrev pub PartsTotal : Type 0
PartsTotal = (Z : CommRing ℕ) (q : ℕ) → IsFixed Z q → (k e : ℕ) → sum_below Z q (λ v. part Z q k e v) ≡ e

-- the pieces under t elements are nonzero idempotents, orthogonal and in order, that add up to one
abbrev pub PiecesSplit : Type 0
PiecesSplit = (Z : CommRing ℕ) (T : ZeroTest Z) (q : ℕ) → IsFixed Z q → (at : ℕ → ℕ) (t : ℕ) → IsSplitting Z q at t (pieces Z T q at t)

-- the values of the basis at what isn't nought are a character
abbrev pub ValuesAreCharacters : Type 0
ValuesAreCharacters =
    (F : CommRing ℕ) → Field F → (Z : CommRing ℕ) (r : ℕ) (E : HasBasis F Z r) (e : ℕ) (u : ℕ → ℕ) → e ≢ Z.nought → HasValues E e u → IsCharacter E u

-- each character has the values of some piece
abbrev pub CharactersListed : Type 0
CharactersListed =
    (F : CommRing ℕ) → Field F → (Z : CommRing ℕ) (r : ℕ) (E : HasBasis F Z r) (q : ℕ) (u : ℕ → ℕ) → IsCharacter E u
    → (es : List ℕ) → IsSplitting Z q E.at r es → Among (λ e. HasValues E e u) es

-- there are as many pieces as elements in the basis
abbrev pub SplittingCounts : Type 0
SplittingCounts =
    (F : CommRing ℕ) → Field F → (Z : CommRing ℕ) (r : ℕ) (E : HasBasis F Z r) (q : ℕ) (es : List ℕ) → IsSplitting Z q E.at r es → length es ≡ r

-- more rows than their width are dependent
abbrev pub RowsDependent : Type 0
RowsDependent = (F : CommRing ℕ) → Field F → (r : ℕ) (x : ℕ → ℕ → ℕ) → AreDependent F r x
