use Rattle.fusion.proofs.Names.{◌≡◌, None, first, count, simple_fault, triple, IsFront}
use Rattle.fusion.proofs.web.numbers.Given as goal

-- the numbers of the simples before i are there, and all of them whole
abbrev pub invariant-loop-i : goal.invariant-loop-i
invariant-loop-i g l =
    IsFront g.row.K l.simples (triple (count g.row.K l.simples) l.i 0 0) l.web × (first l.i (simple_fault g.row.K l.simples) ≡ None)
