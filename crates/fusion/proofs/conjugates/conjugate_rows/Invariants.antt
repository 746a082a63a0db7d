use Rattle.fusion.specs.Kept.{AreAt, AreWeighted}
use Rattle.fusion.proofs.conjugates.conjugate_rows.Given as goal

-- the rows of the simples before l
abbrev pub invariant-loop-l : goal.invariant-loop-l
invariant-loop-l g l = AreAt (λ m row. AreWeighted g.row.K l.simples m row.items) l.l l.rows.items
