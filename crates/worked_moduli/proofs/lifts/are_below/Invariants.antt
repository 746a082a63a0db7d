use Rattle.std.proofs.Common.{ℕ, ◌<◌}
use Rattle.dixon_split.specs.CentralLists.{central_value}
use Rattle.worked_moduli.proofs.lifts.are_below.Given as goal

-- the values of the lists before i are below
abbrev pub invariant-loop-i : goal.invariant-loop-i
invariant-loop-i l = (i t : ℕ) → i < l.i → t < l.width → central_value l.central i t < l.q
