use Rattle.data_print.proofs.Names.{◌≡◌, ◌++◌, map, take, cyclotomic_value, row_at, value_words}
use Rattle.data_print.proofs.value_words.append_row.Given as goal

-- the values before j
abbrev pub invariant-loop-j : goal.invariant-loop-j
invariant-loop-j g l = l.text.items ≡ l.fn.text.items ++ value_words (map (λ coefficients. cyclotomic_value g.row.K coefficients) (take l.j (row_at l.rows l.i)))
