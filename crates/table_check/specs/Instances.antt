-- A worked twist: the group of one element, whose only character is 1.
use Rattle.std.specs.Prelude.{[], ◌∷◌}
use Rattle.twisted.specs.Twist.{TwistedSubgroup}

abbrev pub one_twist : TwistedSubgroup
one_twist = record { at = 0; elements = 0 ∷ []; group = record { order = 1; entries = 0 ∷ [] }; modulus = 1; phases = 0 ∷ [] }
