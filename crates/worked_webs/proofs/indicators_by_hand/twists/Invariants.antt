use Rattle.std.proofs.Common.{All, ◌<◌}
use Rattle.worked_webs.proofs.indicators_by_hand.twists.Given as goal

-- the twists so far are below the conductor
abbrev pub invariant-loop-twist : goal.invariant-loop-twist
invariant-loop-twist g l = All (λ t. t < 4) l.list
