use Rattle.modular_st.proofs.Names.{◌≡◌, ◌/◌, ◌%◌, length, representatives, AllAt, IsKeptRow}
use Rattle.modular_st.proofs.conjugates.kept_rows.Given as goal

-- the rows before q
abbrev pub invariant-loop-q : goal.invariant-loop-q
invariant-loop-q g l =
    let r = length (representatives l.simples.cocycle.group) in
    (length l.rows.items ≡ l.q) × AllAt (λ q row. IsKeptRow g.row.K l.simples l.pairs (q / r) (q % r) row.items) l.rows.items
