use Rattle.table_check.proofs.Names.{IsFolded, folded_value, characters_of, product_term}
use Rattle.table_check.proofs.sides.product_sum.Given as goal

-- the terms before y
abbrev pub invariant-loop-y : goal.invariant-loop-y
invariant-loop-y g l =
    IsFolded g.row.K (product_term l.table.over (characters_of g.row.K l.table.rows) l.i l.j l.x) l.y (folded_value g.row.K l.folded) l.folded.bound
