use Rattle.modular_st.proofs.Names.{◌≡◌, map, range_with_len, count, values_of_rows, s_front}
use Rattle.modular_st.proofs.matrix.numerator_rows.Given as goal

-- the rows before i
abbrev pub invariant-loop-i : goal.invariant-loop-i
invariant-loop-i g l = values_of_rows g.row.K l.rows ≡ map (λ i. s_front g.row.K l.simples i (count g.row.K l.simples)) (range_with_len 0 l.i)
