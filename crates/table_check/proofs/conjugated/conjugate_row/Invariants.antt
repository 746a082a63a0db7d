use Rattle.table_check.proofs.Names.{◌≡◌, map, range_with_len, conjugate, characters_of, values_of}
use Rattle.table_check.proofs.conjugated.conjugate_row.Given as goal

-- the conjugates before x
abbrev pub invariant-loop-x : goal.invariant-loop-x
invariant-loop-x g l = values_of g.row.K l.row.items ≡ map (λ y. conjugate g.row.K ((characters_of g.row.K l.table.rows).chi l.i y)) (range_with_len 0 l.x)
