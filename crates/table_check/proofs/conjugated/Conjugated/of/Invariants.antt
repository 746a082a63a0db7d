use Rattle.table_check.proofs.Names.{◌≡◌, map, size, characters_of, values_of, conjugate_rows}
use Rattle.table_check.proofs.conjugated.Conjugated.of.Given as goal

-- the rows before i
abbrev pub invariant-loop-i : goal.invariant-loop-i
invariant-loop-i g l = map (λ row. values_of g.row.K row.items) l.conjugates.items ≡ conjugate_rows (size l.fn.candidate.over) (characters_of g.row.K l.fn.candidate.rows) l.i
