-- What holds of the central characters modulo q.
use Rattle.std.specs.Prelude.{◌≡◌, ℕ, ◌%◌, ◌<◌, List, length, Contains}
use Rattle.prime_field.specs.declared.mod_ring.ModRing.{ModRing}
use Rattle.twisted.specs.Twist.{TwistedSubgroup, size, IsTwist}
use Rattle.twisted.specs.Regular.{rank}
use Rattle.centre_powers.specs.CentralPowers.{unit_period}
use Rattle.splitting_theory.specs.Lists.{Each, Pairwise}
use Rattle.centre_algebra.specs.CentralCharacters.{IsCharacterList, IsBefore}

-- the lists are those of all central characters, each once and in ascending order, and as many as the rank
pub record AreCentralCharacters (ring : ModRing) (s : TwistedSubgroup) (lists : List (List ℕ)) : Type 0 where
  pub each : Each (IsCharacterList ring s) lists
  pub every : (values : List ℕ) → IsCharacterList ring s values → Contains lists values
  pub ascending : Pairwise IsBefore lists
  pub count : length lists ≡ rank s

-- where the modulus of the twist times the exponent of its group divides the conductor, and q is over the size
abbrev pub CentreSplits : ModRing → Type 0
CentreSplits ring =
    (s : TwistedSubgroup) → IsTwist s → size s < ring.q → ring.conductor % unit_period s ≡ 0
    → (lists : List (List ℕ)) × AreCentralCharacters ring s lists
