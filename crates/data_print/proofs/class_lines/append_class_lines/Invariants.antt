use Rattle.data_print.proofs.Names.{◌≡◌, ◌++◌, slice_index, first_lines, class_line}
use Rattle.data_print.proofs.class_lines.append_class_lines.Given as goal

abbrev pub invariant-loop-c : goal.invariant-loop-c
invariant-loop-c l = l.out.items ≡ l.fn.out.items ++ first_lines (λ c. class_line l.classes c (slice_index l.ranks c)) l.c
