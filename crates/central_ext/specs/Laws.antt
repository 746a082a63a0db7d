-- What holds of the extension of every twist.
use Rattle.std.specs.Prelude.{◌≡◌, ℕ, ◌+◌, ◌%◌, ◌<◌, ◌↔◌, true}
use Rattle.algebra.specs.Structures.{CommRing}
use Rattle.algebra.specs.Roots.{RootOfUnity}
use Rattle.twisted.specs.Twist.{TwistedSubgroup, size, phase, IsTwist}
use Rattle.twisted.specs.Regular.{kappa, is_regular}
use Rattle.twisted.specs.Algebra.{root, unit_vector}
use Rattle.classes.specs.Conjugacy.{conjugate}
use Rattle.central_ext.specs.declared.pair.Pair.{Pair}
use Rattle.central_ext.specs.Extension.{IsPair, ext_product, ext_identity, ext_inverse, ext_power, place_power, power_phase}
use Rattle.central_ext.specs.ExtensionClasses.{pair_count, pair_at, ext_conjugate, are_conjugate, class_number}
use Rattle.central_ext.specs.PowersOfUnits.{algebra_power}

-- a product of pairs is a pair
abbrev pub ProductIsPair : Type 0
ProductIsPair = (s : TwistedSubgroup) → IsTwist s → (a b : Pair) → IsPair s a → IsPair s b → IsPair s (ext_product s a b)

-- (e,0) is a pair
abbrev pub IdentityIsPair : Type 0
IdentityIsPair = (s : TwistedSubgroup) → IsTwist s → IsPair s (ext_identity s)

-- the inverse of a pair is a pair
abbrev pub InverseIsPair : Type 0
InverseIsPair = (s : TwistedSubgroup) → IsTwist s → (a : Pair) → IsPair s a → IsPair s (ext_inverse s a)

-- (a b) c = a (b c)
abbrev pub PairsAssociate : Type 0
PairsAssociate =
    (s : TwistedSubgroup) → IsTwist s → (a b c : Pair) → IsPair s a → IsPair s b → IsPair s c
    → ext_product s (ext_product s a b) c ≡ ext_product s a (ext_product s b c)

-- (e,0) a = a = a (e,0)
abbrev pub PairsIdentity : Type 0
PairsIdentity =
    (s : TwistedSubgroup) → IsTwist s → (a : Pair) → IsPair s a → (ext_product s (ext_identity s) a ≡ a) × (ext_product s a (ext_identity s) ≡ a)

-- a^-1 a = (e,0) = a a^-1
abbrev pub PairsInverse : Type 0
PairsInverse =
    (s : TwistedSubgroup) → IsTwist s → (a : Pair) → IsPair s a
    → (ext_product s (ext_inverse s a) a ≡ ext_identity s) × (ext_product s a (ext_inverse s a) ≡ ext_identity s)

-- (c,k)(p,i)(c,k)^-1 = (c p c^-1, i + ka(c,p))
abbrev pub ConjugateOfPair : Type 0
ConjugateOfPair =
    (s : TwistedSubgroup) → IsTwist s → (c a : Pair) → IsPair s c → IsPair s a
    → ext_conjugate s c a ≡ record { place = conjugate s.group c.place a.place; root = (a.root + kappa s c.place a.place) % s.modulus }

-- b is conjugate to a exactly where it is c a c^-1 for some pair c
abbrev pub ConjugateExactly : Type 0
ConjugateExactly =
    (s : TwistedSubgroup) → IsTwist s → (a b : Pair) → (are_conjugate s a b ≡ true) ↔ ((c : Pair) × IsPair s c × (ext_conjugate s c a ≡ b))

-- a pair is conjugate to itself
abbrev pub ConjugateToItself : Type 0
ConjugateToItself = (s : TwistedSubgroup) → IsTwist s → (a : Pair) → IsPair s a → are_conjugate s a a ≡ true

-- conjugacy goes both ways
abbrev pub ConjugateBothWays : Type 0
ConjugateBothWays =
    (s : TwistedSubgroup) → IsTwist s → (a b : Pair) → IsPair s a → IsPair s b → are_conjugate s a b ≡ true → are_conjugate s b a ≡ true

-- and goes on
abbrev pub ConjugateOnwards : Type 0
ConjugateOnwards =
    (s : TwistedSubgroup) → IsTwist s → (a b c : Pair) → IsPair s a → IsPair s b → IsPair s c
    → are_conjugate s a b ≡ true → are_conjugate s b c ≡ true → are_conjugate s a c ≡ true

-- two pairs have one class number exactly where they are conjugate
abbrev pub ClassNumbersTell : Type 0
ClassNumbersTell =
    (s : TwistedSubgroup) → IsTwist s → (t u : ℕ) → t < pair_count s → u < pair_count s
    → (class_number s t ≡ class_number s u) ↔ (are_conjugate s (pair_at s t) (pair_at s u) ≡ true)

-- p is regular exactly where no two of its lifts (p,0) .. (p,M-1) are conjugate
abbrev pub RegularExactly : Type 0
RegularExactly =
    (s : TwistedSubgroup) → IsTwist s → (p : ℕ) → p < size s
    → (is_regular s p ≡ true)
    ↔ ((i j : ℕ) → i < s.modulus → j < s.modulus → are_conjugate s (record { place = p; root = i }) (record { place = p; root = j }) ≡ true → i ≡ j)

-- (p,0)^j = (p^j, power_phase(p,j))
abbrev pub PowerOfLift : Type 0
PowerOfLift =
    (s : TwistedSubgroup) → IsTwist s → (p j : ℕ) → p < size s
    → ext_power s (record { place = p; root = 0 }) j ≡ record { place = place_power s p j; root = power_phase s p j }

-- power_phase(p, i + j) = power_phase(p,i) + power_phase(p,j) + th(p^i, p^j)
abbrev pub PowerPhaseOfSum : Type 0
PowerPhaseOfSum =
    (s : TwistedSubgroup) → IsTwist s → (p i j : ℕ) → p < size s
    → power_phase s p (i + j) ≡ (power_phase s p i + power_phase s p j + phase s (place_power s p i) (place_power s p j)) % s.modulus

-- u_p^j = e(power_phase(p,j)) u_(p^j)
abbrev pub PowerOfUnit : {A : Type 0} (R : CommRing A) {m : ℕ} → RootOfUnity R m → Type 0
PowerOfUnit R {m} U =
    (s : TwistedSubgroup) → IsTwist s → m % s.modulus ≡ 0 → (p j x : ℕ) → p < size s → x < size s
    → algebra_power R U s (unit_vector R U s p) j x ≡ R.mul (root R U s (power_phase s p j)) (unit_vector R U s (place_power s p j) x)
