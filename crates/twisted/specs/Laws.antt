-- What holds of every twist, and of its twisted group algebra over every ring with a root of unity that tells exponents apart.
use Rattle.std.specs.Prelude.{◌≡◌, ℕ, ◌+◌, ◌%◌, ◌<◌, ◌↔◌, true, length, slice_index}
use Rattle.algebra.specs.Structures.{CommRing}
use Rattle.algebra.specs.Roots.{RootOfUnity}
use Rattle.group_table.specs.Group.{product}
use Rattle.classes.specs.Conjugacy.{conjugate}
use Rattle.twisted.specs.Twist.{TwistedSubgroup, size, IsTwist}
use Rattle.twisted.specs.Regular.{kappa, is_regular, regular_representatives, rank}
use Rattle.twisted.specs.Algebra.{root, twisted_product, IsCentral, class_sum, combination}

-- ka(dc, x) = ka(d, c x c^-1) + ka(c, x)
abbrev pub KappaComposes : Type 0
KappaComposes =
    (s : TwistedSubgroup) → IsTwist s → (d c x : ℕ) → d < size s → c < size s → x < size s
    → kappa s (product s.group d c) x ≡ (kappa s d (conjugate s.group c x) + kappa s c x) % s.modulus

-- all members of a class are regular, or none is
abbrev pub RegularOnClasses : Type 0
RegularOnClasses =
    (s : TwistedSubgroup) → IsTwist s → (c x : ℕ) → c < size s → x < size s → is_regular s (conjugate s.group c x) ≡ is_regular s x

-- for a regular x the phase ka(c, x) depends on c x c^-1 alone
abbrev pub KappaOfConjugate : Type 0
KappaOfConjugate =
    (s : TwistedSubgroup) → IsTwist s → (c d x : ℕ) → c < size s → d < size s → x < size s → is_regular s x ≡ true
    → conjugate s.group c x ≡ conjugate s.group d x → kappa s c x ≡ kappa s d x

-- the representatives are as many as the rank
abbrev pub RankCounts : Type 0
RankCounts = (s : TwistedSubgroup) → length (regular_representatives s) ≡ rank s

module _ {A : Type 0} (R : CommRing A) {m : ℕ} (U : RootOfUnity R m) where
  -- the product is associative
  abbrev pub ProductAssociates : Type 0
  ProductAssociates =
      (s : TwistedSubgroup) → IsTwist s → m % s.modulus ≡ 0 → (p q r : ℕ → A) (x : ℕ) → x < size s
      → twisted_product R U s (twisted_product R U s p q) r x ≡ twisted_product R U s p (twisted_product R U s q r) x

  -- z commutes with every u_y exactly where z(c x c^-1) = e(ka(c,x)) z(x)
  abbrev pub CentralExactly : Type 0
  CentralExactly =
      (s : TwistedSubgroup) → IsTwist s → m % s.modulus ≡ 0 → (z : ℕ → A)
      → IsCentral R U s z
      ↔ ((c x : ℕ) → c < size s → x < size s → z (conjugate s.group c x) ≡ R.mul (root R U s (kappa s c x)) (z x))

  -- the class sum of a regular p is e(ka(c,p)) at every conjugate c p c^-1
  abbrev pub ClassSumAtConjugates : Type 0
  ClassSumAtConjugates =
      (s : TwistedSubgroup) → IsTwist s → m % s.modulus ≡ 0 → (c p : ℕ) → c < size s → p < size s → is_regular s p ≡ true
      → class_sum R U s p (conjugate s.group c p) ≡ root R U s (kappa s c p)

  -- each combination of the class sums of the regular classes commutes with every u_y
  abbrev pub CombinationsAreCentral : Type 0
  CombinationsAreCentral =
      (s : TwistedSubgroup) → IsTwist s → m % s.modulus ≡ 0 → (f : ℕ → A) → IsCentral R U s (combination R U s f)

  -- what commutes with every u_y is such a combination, with its own values at the representatives
  abbrev pub CentralIsCombination : Type 0
  CentralIsCombination =
      (s : TwistedSubgroup) → IsTwist s → m % s.modulus ≡ 0 → (z : ℕ → A) → IsCentral R U s z → (x : ℕ) → x < size s
      → z x ≡ combination R U s (λ i. z (slice_index (regular_representatives s) i)) x

  -- and with no other coefficients
  abbrev pub CoefficientsAreUnique : Type 0
  CoefficientsAreUnique =
      (s : TwistedSubgroup) → IsTwist s → m % s.modulus ≡ 0 → (z f : ℕ → A) → ((x : ℕ) → x < size s → z x ≡ combination R U s f x)
      → (i : ℕ) → i < rank s → f i ≡ z (slice_index (regular_representatives s) i)
