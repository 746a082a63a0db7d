use Rattle.data_print.proofs.Names.{◌≡◌, ◌⧺◌, first_lines, simple_line, character_line}
use Rattle.data_print.proofs.simple_lines.simples_text.Given as goal

-- the lines of the simples before i
abbrev pub invariant-loop-i : goal.invariant-loop-i
invariant-loop-i g l = l.text.items ≡ first_lines (λ i. simple_line g.row.K l.simples i ⧺ character_line g.row.K l.simples i) l.i
