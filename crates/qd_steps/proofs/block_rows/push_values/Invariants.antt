use Rattle.qd_steps.proofs.Names.{◌≡◌, [], ◌∷◌, ◌++◌, take, row_at, block_at}
use Rattle.qd_steps.proofs.block_rows.push_values.Given as goal

-- the values before place p are added
abbrev pub invariant-loop-p : goal.invariant-loop-p
invariant-loop-p g l = l.rows ≡ take l.r (block_at l.blocks l.b).rows ++ take l.p (row_at (block_at l.blocks l.b).rows l.r) ∷ []
