use Rattle.data_print.proofs.Names.{◌≡◌, ◌++◌, count_of, first_lines, product_text}
use Rattle.data_print.proofs.fusion_lines.append_products.Given as goal

-- the lines of the products with the simples before j
abbrev pub invariant-loop-j : goal.invariant-loop-j
invariant-loop-j l = l.text.items ≡ l.fn.text.items ++ first_lines (λ j. product_text l.web.simples (count_of l.web) l.i j) l.j
