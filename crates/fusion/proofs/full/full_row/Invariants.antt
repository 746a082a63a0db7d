use Rattle.fusion.proofs.Names.{◌≡◌, AreAt, value_or_nought, full_term}
use Rattle.fusion.proofs.full.full_row.Given as goal

-- the values before x
abbrev pub invariant-loop-x : goal.invariant-loop-x
invariant-loop-x g l = AreAt (λ x u. value_or_nought g.row.K u ≡ (full_term g.row.K l.simples l.i l.g x).value) l.x l.row.items
