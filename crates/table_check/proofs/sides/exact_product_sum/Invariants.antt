use Rattle.table_check.proofs.Names.{IsTotal, cyclotomic_value, characters_of, product_term}
use Rattle.table_check.proofs.sides.exact_product_sum.Given as goal

-- the terms before y
abbrev pub invariant-loop-y : goal.invariant-loop-y
invariant-loop-y g l =
    IsTotal (product_term l.table.over (characters_of g.row.K l.table.rows) l.i l.j l.x) l.y (cyclotomic_value g.row.K l.total.sum.coefficients) l.total.sizes
