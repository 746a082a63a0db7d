use Rattle.table_check.proofs.Names.{IsTotal, cyclotomic_value, column_term}
use Rattle.table_check.proofs.sides.column_right.Given as goal

-- the terms before c
abbrev pub invariant-loop-c : goal.invariant-loop-c
invariant-loop-c g l = IsTotal (column_term l.table.over l.x l.y) l.c (cyclotomic_value g.row.K l.total.sum.coefficients) l.total.sizes
