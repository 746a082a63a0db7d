use Rattle.fusion.proofs.Names.{◌≡◌, Some, None, first, quotient_at, sum_fault, AreAt}
use Rattle.fusion.proofs.pair.pair_numbers.Given as goal

-- the numbers before l, all of which are there
abbrev pub invariant-loop-l : goal.invariant-loop-l
invariant-loop-l g l =
    AreAt (λ r number. quotient_at g.row.K l.simples l.i l.j r ≡ Some number) l.l l.numbers.items × (first l.l (sum_fault g.row.K l.simples l.i l.j) ≡ None)
