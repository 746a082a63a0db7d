use Rattle.std.proofs.Common.{ℕ, ◌<◌}
use Rattle.dixon_split.specs.CentralLists.{central_value}
use Rattle.worked_moduli.proofs.lifts.is_below.Given as goal

-- the values before t are below
abbrev pub invariant-loop-t : goal.invariant-loop-t
invariant-loop-t l = (t : ℕ) → t < l.t → central_value l.central l.i t < l.q
