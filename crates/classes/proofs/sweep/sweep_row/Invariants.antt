use Rattle.std.proofs.Common.{◌≡◌, ℕ, ◌<◌, None, get_or}
use Rattle.classes.proofs.Rows.{reached_before}
use Rattle.classes.proofs.sweep.sweep_row.Given as goal

abbrev pub invariant-loop-k : goal.invariant-loop-k
invariant-loop-k l = (g : ℕ) → g < l.group.order → get_or l.reaches g None ≡ reached_before l.group l.a l.k g
