-- Splitting a commutative ring whose elements are their own q-th powers, by idempotents (Dixon 1967; the parts by Lagrange).
use Rattle.std.specs.Prelude.{◌≡◌, ◌≢◌, ℕ, zero, suc, ◌<◌, Bool, true, false, List, [], ◌∷◌, ◌++◌, flat_map, if◌then◌else◌}
use Rattle.algebra.specs.Structures.{CommRing}
use Rattle.algebra.specs.Sums.{multiple, power, sum_list}
use Rattle.splitting_theory.specs.Lists.{Each, Pairwise}

-- one isn't nought, q copies of it are, fewer copies are nought only of nought, and each element is its own q-th power
pub record IsFixed {B : Type 0} (Z : CommRing B) (q : ℕ) : Type 0 where
  pub over_one : 1 < q
  pub one_there : Z.one ≢ Z.nought
  pub vanish : multiple Z q Z.one ≡ Z.nought
  pub cancel : (n : ℕ) (x : B) → 0 < n → n < q → multiple Z n x ≡ Z.nought → x ≡ Z.nought
  pub fixed : (x : B) → power Z x q ≡ x

-- a test of being nought
pub record ZeroTest {B : Type 0} (Z : CommRing B) : Type 0 where
  pub is_nought : B → Bool
  pub passes : (x : B) → is_nought x ≡ true → x ≡ Z.nought
  pub fails : (x : B) → is_nought x ≡ false → x ≢ Z.nought

module _ {B : Type 0} (Z : CommRing B) where
  -- the number v of the ring: v copies of one
  abbrev pub number : ℕ → B
  number v = multiple Z v Z.one

  -- v^(n-1) e + v^(n-2) k e + .. + k^(n-1) e, by Horner
  unfoldable pub horner : (k v e : B) → ℕ → B
  horner k v e zero = Z.nought
  horner k v e (suc n) = Z.add (Z.mul v (horner k v e n)) (Z.mul (power Z k n) e)

  -- the part of e at the number v: e less the sum of v^(q-1-j) k^j e over j below q, which is Lagrange's polynomial for v at k, times e
  unfoldable pub part : ℕ → (k e : B) → ℕ → B
  part q k e v = Z.add e (Z.neg (horner k (number v) e q))

-- k multiplies e by a number below q
pub record Acts {B : Type 0} (Z : CommRing B) (q : ℕ) (k e : B) : Type 0 where
  pub value : ℕ
  pub below : value < q
  pub acts : Z.mul k e ≡ Z.mul (number Z value) e

-- k multiplies e and f by one number below q
pub record ActsAlike {B : Type 0} (Z : CommRing B) (q : ℕ) (k e f : B) : Type 0 where
  pub value : ℕ
  pub below : value < q
  pub left : Z.mul k e ≡ Z.mul (number Z value) e
  pub right : Z.mul k f ≡ Z.mul (number Z value) f

-- k multiplies e by a lower number than f, both below q
pub record ActsLower {B : Type 0} (Z : CommRing B) (q : ℕ) (k e f : B) : Type 0 where
  pub low : ℕ
  pub high : ℕ
  pub less : low < high
  pub below : high < q
  pub left : Z.mul k e ≡ Z.mul (number Z low) e
  pub right : Z.mul k f ≡ Z.mul (number Z high) f

-- a nonzero idempotent that each of the first t elements multiplies by a number
pub record IsPiece {B : Type 0} (Z : CommRing B) (q : ℕ) (at : ℕ → B) (t : ℕ) (e : B) : Type 0 where
  pub there : e ≢ Z.nought
  pub idempotent : Z.mul e e ≡ e
  pub served : (s : ℕ) → s < t → Acts Z q (at s) e

-- the first of t elements that multiplies e and f by two numbers multiplies e by the lower one, and e f is nought
pub record Precedes {B : Type 0} (Z : CommRing B) (q : ℕ) (at : ℕ → B) (t : ℕ) (e f : B) : Type 0 where
  pub apart : Z.mul e f ≡ Z.nought
  pub place : ℕ
  pub place_below : place < t
  pub before : (s : ℕ) → s < place → ActsAlike Z q (at s) e f
  pub here : ActsLower Z q (at place) e f

-- one in its pieces under t elements, in the order of the numbers that these multiply them by
pub record IsSplitting {B : Type 0} (Z : CommRing B) (q : ℕ) (at : ℕ → B) (t : ℕ) (es : List B) : Type 0 where
  pub each : Each (IsPiece Z q at t) es
  pub order : Pairwise (Precedes Z q at t) es
  pub whole : sum_list Z es ≡ Z.one

module _ {B : Type 0} (Z : CommRing B) (T : ZeroTest Z) (q : ℕ) where
  -- the parts of e at the numbers below n that aren't nought, ascending
  unfoldable pub parts_below : (k e : B) → ℕ → List B
  parts_below k e zero = []
  parts_below k e (suc n) = if T.is_nought (part Z q k e n) then parts_below k e n else parts_below k e n ++ part Z q k e n ∷ []

  -- the pieces of one after the first t elements: each piece of before in its parts
  unfoldable pub pieces : (ℕ → B) → ℕ → List B
  pieces at zero = Z.one ∷ []
  pieces at (suc t) = flat_map (λ e. parts_below (at t) e q) (pieces at t)
