use Rattle.fusion.proofs.Names.{count, triple, IsFront}
use Rattle.fusion.proofs.web.add_pair.Given as goal

-- the numbers before l are there
abbrev pub invariant-loop-l : goal.invariant-loop-l
invariant-loop-l g l = IsFront g.row.K l.simples (triple (count g.row.K l.simples) l.i l.j l.l) l.web
