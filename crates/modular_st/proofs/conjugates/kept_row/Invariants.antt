use Rattle.modular_st.proofs.KeptRows.{IsKeptFront}
use Rattle.modular_st.proofs.conjugates.kept_row.Given as goal

-- the pairs before m
abbrev pub invariant-loop-m : goal.invariant-loop-m
invariant-loop-m g l = IsKeptFront g.row.K l.simples l.pairs l.i l.d l.m l.row.items
