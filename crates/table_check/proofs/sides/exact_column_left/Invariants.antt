use Rattle.table_check.proofs.Names.{IsTotal, cyclotomic_value, characters_of, row_term}
use Rattle.table_check.proofs.sides.exact_column_left.Given as goal

-- the terms before i
abbrev pub invariant-loop-i : goal.invariant-loop-i
invariant-loop-i g l =
    IsTotal (row_term l.table.over (characters_of g.row.K l.table.rows) l.x l.y) l.i (cyclotomic_value g.row.K l.total.sum.coefficients) l.total.sizes
