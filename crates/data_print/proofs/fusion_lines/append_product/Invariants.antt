use Rattle.data_print.proofs.Names.{◌≡◌, ◌++◌, count_of, product_text}
use Rattle.data_print.proofs.FusionTexts.{results_text}
use Rattle.data_print.proofs.fusion_lines.append_product.Given as goal

-- the lines so far, with those of the results that are left, are all lines of the product
abbrev pub invariant-loop-k : goal.invariant-loop-k
invariant-loop-k l =
    (goal.iterator-loop-k).can_next l.k-iterator × (goal.iterator-loop-k).is_finite l.k-iterator
    × (l.text.items ++ results_text l.i l.j l.k-iterator ≡ l.fn.text.items ++ product_text l.web.simples (count_of l.web) l.i l.j)
