use Rattle.fusion.proofs.Names.{◌≡◌, None, first, count, pair_fault, triple, IsFront}
use Rattle.fusion.proofs.web.add_simple.Given as goal

-- the numbers of the pairs before j are there, and all of them whole
abbrev pub invariant-loop-j : goal.invariant-loop-j
invariant-loop-j g l =
    IsFront g.row.K l.simples (triple (count g.row.K l.simples) l.i l.j 0) l.web × (first l.j (pair_fault g.row.K l.simples l.i) ≡ None)
