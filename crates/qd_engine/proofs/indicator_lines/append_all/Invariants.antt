use Rattle.qd_engine.proofs.Names.{◌≡◌, ◌++◌, first_lines, indicator_line, indicator_of}
use Rattle.qd_engine.proofs.indicator_lines.append_all.Given as goal

-- the lines of the simples before l
abbrev pub invariant-loop-l : goal.invariant-loop-l
invariant-loop-l g l = l.out.items ≡ l.fn.out.items ++ first_lines (λ i. indicator_line i (indicator_of g.row.K l.simples l.m i)) l.l
