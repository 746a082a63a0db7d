use Rattle.fusion.proofs.Names.{◌/◌, ◌%◌, AreAt, IsClassRow}
use Rattle.fusion.proofs.full.full_values.Given as goal

-- the rows before q
abbrev pub invariant-loop-q : goal.invariant-loop-q
invariant-loop-q g l =
    let n = l.simples.cocycle.group.order in AreAt (λ q row. IsClassRow g.row.K l.simples (q / n) (q % n) row.items) l.q l.rows.items
