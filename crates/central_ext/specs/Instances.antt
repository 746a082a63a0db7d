-- Worked twists, and what is known of their extensions.
use Rattle.std.specs.Prelude.{◌≡◌, ℕ, List, [], ◌∷◌, map, true, false}
use Rattle.twisted.specs.Twist.{TwistedSubgroup, IsTwist}
use Rattle.twisted.specs.Instances.{permutations}
use Rattle.central_ext.specs.Extension.{power_phase}
use Rattle.central_ext.specs.ExtensionClasses.{are_conjugate, class_number}

-- the group of order 2, with the phase -1 of its other element with itself: the extension is cyclic of order 4
abbrev pub two_twist : TwistedSubgroup
two_twist = record { at = 1; elements = 0 ∷ 1 ∷ []; group = record { order = 2; entries = 0 ∷ 1 ∷ 1 ∷ 0 ∷ [] }; modulus = 2; phases = 0 ∷ 0 ∷ 0 ∷ 1 ∷ [] }

-- the permutations of three points without phases: the extension is their product with a group of order 2
abbrev pub no_phases : List ℕ
no_phases = 0 ∷ 0 ∷ 0 ∷ 0 ∷ 0 ∷ 0 ∷ 0 ∷ 0 ∷ 0 ∷ 0 ∷ 0 ∷ 0 ∷ 0 ∷ 0 ∷ 0 ∷ 0 ∷ 0 ∷ 0 ∷ 0 ∷ 0 ∷ 0 ∷ 0 ∷ 0 ∷ 0 ∷ 0 ∷ 0 ∷ 0 ∷ 0 ∷ 0 ∷ 0 ∷ 0 ∷ 0 ∷ 0 ∷ 0 ∷ 0 ∷ 0 ∷ []

abbrev pub plain_twist : TwistedSubgroup
plain_twist = record { at = 0; elements = 0 ∷ 1 ∷ 2 ∷ 3 ∷ 4 ∷ 5 ∷ []; group = record { order = 6; entries = permutations }; modulus = 2; phases = no_phases }

-- three bits, the first worth 4 and the last 1, with the phase -1 where the first bit of the left and the second of the right are 1:
-- the extension is the product of the symmetries of a square and a group of order 2
abbrev pub three_bits : List ℕ
three_bits = 0 ∷ 1 ∷ 2 ∷ 3 ∷ 4 ∷ 5 ∷ 6 ∷ 7 ∷ 1 ∷ 0 ∷ 3 ∷ 2 ∷ 5 ∷ 4 ∷ 7 ∷ 6 ∷ 2 ∷ 3 ∷ 0 ∷ 1 ∷ 6 ∷ 7 ∷ 4 ∷ 5 ∷ 3 ∷ 2 ∷ 1 ∷ 0 ∷ 7 ∷ 6 ∷ 5 ∷ 4 ∷ 4 ∷ 5 ∷ 6 ∷ 7 ∷ 0 ∷ 1 ∷ 2 ∷ 3 ∷ 5 ∷ 4 ∷ 7 ∷ 6 ∷ 1 ∷ 0 ∷ 3 ∷ 2 ∷ 6 ∷ 7 ∷ 4 ∷ 5 ∷ 2 ∷ 3 ∷ 0 ∷ 1 ∷ 7 ∷ 6 ∷ 5 ∷ 4 ∷ 3 ∷ 2 ∷ 1 ∷ 0 ∷ []

abbrev pub bit_phases : List ℕ
bit_phases = 0 ∷ 0 ∷ 0 ∷ 0 ∷ 0 ∷ 0 ∷ 0 ∷ 0 ∷ 0 ∷ 0 ∷ 0 ∷ 0 ∷ 0 ∷ 0 ∷ 0 ∷ 0 ∷ 0 ∷ 0 ∷ 0 ∷ 0 ∷ 0 ∷ 0 ∷ 0 ∷ 0 ∷ 0 ∷ 0 ∷ 0 ∷ 0 ∷ 0 ∷ 0 ∷ 0 ∷ 0 ∷ 0 ∷ 0 ∷ 1 ∷ 1 ∷ 0 ∷ 0 ∷ 1 ∷ 1 ∷ 0 ∷ 0 ∷ 1 ∷ 1 ∷ 0 ∷ 0 ∷ 1 ∷ 1 ∷ 0 ∷ 0 ∷ 1 ∷ 1 ∷ 0 ∷ 0 ∷ 1 ∷ 1 ∷ 0 ∷ 0 ∷ 1 ∷ 1 ∷ 0 ∷ 0 ∷ 1 ∷ 1 ∷ []

abbrev pub bits_twist : TwistedSubgroup
bits_twist = record { at = 1; elements = 0 ∷ 1 ∷ 2 ∷ 3 ∷ 4 ∷ 5 ∷ 6 ∷ 7 ∷ []; group = record { order = 8; entries = three_bits }; modulus = 2; phases = bit_phases }

abbrev pub TwoIsTwist : Type 0
TwoIsTwist = IsTwist two_twist

abbrev pub PlainIsTwist : Type 0
PlainIsTwist = IsTwist plain_twist

abbrev pub BitsIsTwist : Type 0
BitsIsTwist = IsTwist bits_twist

-- each pair of a commutative extension is a class, and u_1 has order 4
abbrev pub TwoExtended : Type 0
TwoExtended =
    (map (class_number two_twist) (0 ∷ 1 ∷ 2 ∷ 3 ∷ []) ≡ 0 ∷ 1 ∷ 2 ∷ 3 ∷ [])
    × (map (power_phase two_twist 1) (0 ∷ 1 ∷ 2 ∷ 3 ∷ 4 ∷ []) ≡ 0 ∷ 0 ∷ 1 ∷ 1 ∷ 0 ∷ [])

-- the lifts of the first bit are conjugate, those of the last are not
abbrev pub BitsExtended : Type 0
BitsExtended =
    (are_conjugate bits_twist (record { place = 4; root = 0 }) (record { place = 4; root = 1 }) ≡ true)
    × (are_conjugate bits_twist (record { place = 1; root = 0 }) (record { place = 1; root = 1 }) ≡ false)
