-- What holds of the list of all central characters.
use Rattle.std.specs.Prelude.{◌≡◌, ℕ, ◌%◌, ◌<◌, List}
use Rattle.prime_field.specs.declared.mod_ring.ModRing.{ModRing}
use Rattle.twisted.specs.Twist.{TwistedSubgroup, size, IsTwist}
use Rattle.centre_powers.specs.CentralPowers.{unit_period}
use Rattle.centre_algebra.specs.Laws.{AreCentralCharacters}
use Rattle.character_lists.specs.CharacterLists.{central_characters}

-- whatever lists all central characters, each once and in ascending order, is that list
abbrev pub OneList : ModRing → Type 0
OneList ring = (s : TwistedSubgroup) (lists : List (List ℕ)) → AreCentralCharacters ring s lists → lists ≡ central_characters ring s

-- it lists them, as many as the rank, where q is over the size of the twist and the modulus of the twist times the exponent of its group
-- divides the conductor
abbrev pub ListsCharacters : ModRing → Type 0
ListsCharacters ring =
    (s : TwistedSubgroup) → IsTwist s → size s < ring.q → ring.conductor % unit_period s ≡ 0 → AreCentralCharacters ring s (central_characters ring s)
