use Rattle.qd_engine.proofs.Names.{◌≡◌, All, map, take, with_last_rows, IsValueOf, row_of}
use Rattle.qd_engine.proofs.certificate.push_rows_of.Given as goal

-- the rows of the simples before this place are added
abbrev pub invariant-loop-place : goal.invariant-loop-place
invariant-loop-place g l = record {
  added : l.blocks ≡ with_last_rows l.fn.blocks (map (row_of g.row.K l.simples) (take l.place l.members));
  values : All (λ row. All (IsValueOf g.row.K) row) (map (row_of g.row.K l.simples) (take l.place l.members));
}
