-- The periods of two worked twists.
use Rattle.std.specs.Prelude.{◌≡◌}
use Rattle.twisted.specs.Instances.{four_twist, permutation_twist}
use Rattle.centre_powers.specs.CentralPowers.{unit_period}

-- the four group has exponent 2, and its twist the modulus 2
abbrev pub FourPeriod : Type 0
FourPeriod = unit_period four_twist ≡ 4

-- the permutations of three points have exponent 6, and their twist the modulus 4
abbrev pub PermutationPeriod : Type 0
PermutationPeriod = unit_period permutation_twist ≡ 24
