use Rattle.fusion.proofs.Names.{cyclotomic_value, IsTotal, tensor_part}
use Rattle.fusion.proofs.plain.tensor_character.Given as goal

-- the parts before h
abbrev pub invariant-loop-h : goal.invariant-loop-h
invariant-loop-h g l = IsTotal (tensor_part g.row.K l.simples l.i l.j l.g l.x) l.h (cyclotomic_value g.row.K l.total.sum.coefficients) l.total.sizes
