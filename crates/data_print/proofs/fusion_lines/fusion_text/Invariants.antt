use Rattle.data_print.proofs.Names.{◌≡◌, count_of, first_lines, products_text}
use Rattle.data_print.proofs.fusion_lines.fusion_text.Given as goal

-- the lines of the products of the simples before i
abbrev pub invariant-loop-i : goal.invariant-loop-i
invariant-loop-i l = l.text.items ≡ first_lines (λ i. products_text l.web.simples (count_of l.web) i) l.i
