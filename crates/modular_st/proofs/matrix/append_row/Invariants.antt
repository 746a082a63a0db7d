use Rattle.modular_st.proofs.Names.{◌≡◌, ◌++◌, ◌∷◌, [], values_of_rows, s_front}
use Rattle.modular_st.proofs.matrix.append_row.Given as goal

-- the numerators before j
abbrev pub invariant-loop-j : goal.invariant-loop-j
invariant-loop-j g l = values_of_rows g.row.K l.rows ≡ values_of_rows g.row.K l.fn.rows ++ s_front g.row.K l.simples l.i l.j ∷ []
