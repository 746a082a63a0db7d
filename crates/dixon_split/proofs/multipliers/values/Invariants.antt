use Rattle.dixon_split.proofs.Names.{map, AreValues}
use Rattle.dixon_split.proofs.multipliers.values.Given as goal

abbrev pub invariant-loop-n : goal.invariant-loop-n
invariant-loop-n l = AreValues l.algebra (map (λ piece. piece.items) l.pieces) l.n l.values
