use Rattle.qd_doc.proofs.Names.{take, value_of_terms, ◌≡◌}
use Rattle.qd_doc.proofs.term.plain_of.Given as goal

-- the terms so far were put in
abbrev pub invariant-loop-term : goal.invariant-loop-term
invariant-loop-term l = l.coefficients ≡ value_of_terms l.great (take l.term-index l.terms)
