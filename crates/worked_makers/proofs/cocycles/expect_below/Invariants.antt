use Rattle.std.proofs.Common.{◌<◌, ℕ, slice_index}
use Rattle.worked_makers.proofs.cocycles.expect_below.Given as goal

-- the numbers before i are below the bound
abbrev pub invariant-loop-i : goal.invariant-loop-i
invariant-loop-i g l = (j : ℕ) → j < l.i → slice_index l.numbers j < l.bound
