use Rattle.std.proofs.Common.{◌≡◌, ◌<◌, ℕ, length}
use Rattle.qd_ring.specs.RowLists.{row_at}
use Rattle.worked_rows.proofs.semions.expect_widths.Given as goal

-- the rows before i have that width
abbrev pub invariant-loop-i : goal.invariant-loop-i
invariant-loop-i g l = (j : ℕ) → j < l.i → length (row_at l.rows j) ≡ l.size
