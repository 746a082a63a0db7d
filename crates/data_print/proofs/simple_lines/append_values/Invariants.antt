use Rattle.data_print.proofs.Names.{◌≡◌, ◌++◌, value_words, first_values}
use Rattle.data_print.proofs.simple_lines.append_values.Given as goal

-- the values before p
abbrev pub invariant-loop-p : goal.invariant-loop-p
invariant-loop-p g l = l.text.items ≡ l.fn.text.items ++ value_words (first_values g.row.K l.simples l.i l.p)
