use Rattle.std.proofs.Common.{◌≡◌}
use Rattle.pair_orbits.proofs.Fronts.{front}
use Rattle.pair_orbits.proofs.listing.commuting_pairs.Given as goal

-- those below p are listed
abbrev pub invariant-loop-p : goal.invariant-loop-p
invariant-loop-p l = l.pairs ≡ front l.group l.p
