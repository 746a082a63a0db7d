-- The rows of a twist by a modulus: the lifted rows of all its central characters, in ascending order of these (Dixon 1967); and the first
-- candidate that fails.
use Rattle.std.specs.Prelude.{ℤ, List, length, Option}
use Rattle.prime_field.specs.declared.mod_ring.ModRing.{ModRing}
use Rattle.twisted.specs.Twist.{TwistedSubgroup}
use Rattle.twisted.specs.Regular.{rank}
use Rattle.dixon_split.specs.CentralLists.{CentralLists, central_value}
use Rattle.char_lift.specs.Faults.{lift_fault, lifted_rows}
use Rattle.char_lift.specs.declared.refusal.LiftRefusal.{LiftRefusal}
use Rattle.character_lists.specs.CharacterLists.{central_characters}

module _ (ring : ModRing) (s : TwistedSubgroup) where
  -- all central characters, each the list of its values at the regular classes
  abbrev pub characters : CentralLists
  characters = record { width = rank s; lists = central_characters ring s }

  -- what fails first in the first row whose candidate fails
  unfoldable pub twist_fault : Option LiftRefusal
  twist_fault = lift_fault s ring.q ring.conductor ring.root (length (central_characters ring s)) (central_value characters)

  -- the rows of the candidates
  unfoldable pub twist_rows : List (List (List ℤ))
  twist_rows = lifted_rows s ring.q ring.conductor ring.root (length (central_characters ring s)) (central_value characters)
