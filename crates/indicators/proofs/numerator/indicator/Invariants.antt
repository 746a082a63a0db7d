use Rattle.indicators.proofs.Names.{cyclotomic_value, IsTotal, term_at}
use Rattle.indicators.proofs.numerator.indicator.Given as goal

-- the terms before that with the number q
abbrev pub invariant-loop-q : goal.invariant-loop-q
invariant-loop-q g l = IsTotal (term_at g.row.K l.plane l.dims l.twists l.m) l.q (cyclotomic_value g.row.K l.total.sum.coefficients) l.total.sizes
