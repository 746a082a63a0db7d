use Rattle.table_check.proofs.Names.{IsFolded, folded_value, characters_of, row_term}
use Rattle.table_check.proofs.sides.column_left.Given as goal

-- the terms before i
abbrev pub invariant-loop-i : goal.invariant-loop-i
invariant-loop-i g l =
    IsFolded g.row.K (row_term l.table.over (characters_of g.row.K l.table.rows) l.x l.y) l.i (folded_value g.row.K l.folded) l.folded.bound
