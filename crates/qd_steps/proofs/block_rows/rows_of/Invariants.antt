use Rattle.qd_steps.proofs.Names.{◌≡◌, take, block_at}
use Rattle.qd_steps.proofs.block_rows.rows_of.Given as goal

-- the rows before row r
abbrev pub invariant-loop-r : goal.invariant-loop-r
invariant-loop-r g l = l.rows ≡ take l.r (block_at l.blocks l.b).rows
