use Rattle.fusion.proofs.Names.{cyclotomic_value, IsTotal, inner_part}
use Rattle.fusion.proofs.plain.fusion_sum.Given as goal

-- the terms before p
abbrev pub invariant-loop-p : goal.invariant-loop-p
invariant-loop-p g l = IsTotal (inner_part g.row.K l.simples l.i l.j l.l) l.p (cyclotomic_value g.row.K l.total.sum.coefficients) l.total.sizes
