use Rattle.qd_engine.proofs.Names.{◌≡◌, [], ◌∷◌, ◌++◌, All, last_rows, with_last_rows, IsValueOf}
use Rattle.qd_engine.proofs.Certificates.{front_of_row}
use Rattle.qd_engine.proofs.certificate.push_row_of.Given as goal

-- the values at the places before p are added
abbrev pub invariant-loop-p : goal.invariant-loop-p
invariant-loop-p g l = record {
  added : l.blocks ≡ with_last_rows l.fn.blocks (last_rows l.fn.blocks ++ front_of_row g.row.K l.simples l.i l.p ∷ []);
  values : All (IsValueOf g.row.K) (front_of_row g.row.K l.simples l.i l.p);
}
