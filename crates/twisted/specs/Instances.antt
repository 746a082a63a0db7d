-- Two worked twists, and what is known of them.
use Rattle.std.specs.Prelude.{◌≡◌, ℕ, List, [], ◌∷◌, false}
use Rattle.twisted.specs.Twist.{TwistedSubgroup, IsTwist}
use Rattle.twisted.specs.Regular.{kappa, is_regular, regular_representatives, rank}

-- the four group of pairs of bits, the first bit worth 2, with the phase -1 where the first bit of the left and the second of the
-- right are 1: its algebra is that of the matrices of two rows, whose centre has rank 1
abbrev pub four_group : List ℕ
four_group = 0 ∷ 1 ∷ 2 ∷ 3 ∷ 1 ∷ 0 ∷ 3 ∷ 2 ∷ 2 ∷ 3 ∷ 0 ∷ 1 ∷ 3 ∷ 2 ∷ 1 ∷ 0 ∷ []

abbrev pub four_phases : List ℕ
four_phases = 0 ∷ 0 ∷ 0 ∷ 0 ∷ 0 ∷ 0 ∷ 0 ∷ 0 ∷ 0 ∷ 1 ∷ 0 ∷ 1 ∷ 0 ∷ 1 ∷ 0 ∷ 1 ∷ []

abbrev pub four_twist : TwistedSubgroup
four_twist = record { at = 0; elements = 0 ∷ 1 ∷ 2 ∷ 3 ∷ []; group = record { order = 4; entries = four_group }; modulus = 2; phases = four_phases }

-- the permutations of three points: the identity, the two turns and the three exchanges, as elements of a greater group, with the
-- phases b(x) + b(y) - b(xy) modulo 4 for b = 0, 1, 2, 3, 0, 1. These are a coboundary, so that ka(c,x) = b(x) - b(c x c^-1)
abbrev pub permutations : List ℕ
permutations = 0 ∷ 1 ∷ 2 ∷ 3 ∷ 4 ∷ 5 ∷ 1 ∷ 2 ∷ 0 ∷ 4 ∷ 5 ∷ 3 ∷ 2 ∷ 0 ∷ 1 ∷ 5 ∷ 3 ∷ 4 ∷ 3 ∷ 5 ∷ 4 ∷ 0 ∷ 2 ∷ 1 ∷ 4 ∷ 3 ∷ 5 ∷ 1 ∷ 0 ∷ 2 ∷ 5 ∷ 4 ∷ 3 ∷ 2 ∷ 1 ∷ 0 ∷ []

abbrev pub permutation_phases : List ℕ
permutation_phases = 0 ∷ 0 ∷ 0 ∷ 0 ∷ 0 ∷ 0 ∷ 0 ∷ 0 ∷ 3 ∷ 0 ∷ 0 ∷ 3 ∷ 0 ∷ 3 ∷ 3 ∷ 0 ∷ 3 ∷ 3 ∷ 0 ∷ 3 ∷ 1 ∷ 2 ∷ 1 ∷ 3 ∷ 0 ∷ 2 ∷ 1 ∷ 2 ∷ 0 ∷ 3 ∷ 0 ∷ 2 ∷ 0 ∷ 2 ∷ 0 ∷ 2 ∷ []

abbrev pub permutation_twist : TwistedSubgroup
permutation_twist = record { at = 7; elements = 2 ∷ 3 ∷ 5 ∷ 7 ∷ 11 ∷ 13 ∷ []; group = record { order = 6; entries = permutations }; modulus = 4; phases = permutation_phases }

abbrev pub FourIsTwist : Type 0
FourIsTwist = IsTwist four_twist

abbrev pub PermutationsAreTwist : Type 0
PermutationsAreTwist = IsTwist permutation_twist

-- only the identity is regular
abbrev pub FourRegular : Type 0
FourRegular = (rank four_twist ≡ 1) × (regular_representatives four_twist ≡ 0 ∷ []) × (kappa four_twist 1 2 ≡ 1) × (is_regular four_twist 2 ≡ false)

-- every class is regular
abbrev pub PermutationsRegular : Type 0
PermutationsRegular = (rank permutation_twist ≡ 3) × (regular_representatives permutation_twist ≡ 0 ∷ 1 ∷ 3 ∷ []) × (kappa permutation_twist 1 3 ≡ 2) × (kappa permutation_twist 3 1 ≡ 3)
