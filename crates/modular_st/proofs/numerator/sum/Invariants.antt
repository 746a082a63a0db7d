use Rattle.modular_st.proofs.Names.{cyclotomic_value, IsTotal, s_term}
use Rattle.modular_st.proofs.numerator.sum.Given as goal

-- the terms before p
abbrev pub invariant-loop-p : goal.invariant-loop-p
invariant-loop-p g l = IsTotal (s_term g.row.K l.simples l.i l.j) l.p (cyclotomic_value g.row.K l.total.sum.coefficients) l.total.sizes
