use Rattle.pair_orbits.proofs.Names.{◌≡◌, ◌==◌, length, passing_below, conjugate_pair}
use Rattle.pair_orbits.proofs.listing.count_fixing.Given as goal

-- those below c are counted
abbrev pub invariant-loop-c : goal.invariant-loop-c
invariant-loop-c l = l.count ≡ length (passing_below l.c (λ c. conjugate_pair l.group c l.p == l.p))
