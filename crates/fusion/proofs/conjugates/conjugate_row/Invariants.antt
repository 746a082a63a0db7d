use Rattle.fusion.proofs.Names.{length, get_or, AreAt, places_before, IsWeighted}
use Rattle.fusion.proofs.conjugates.conjugate_row.Given as goal

-- those at the pairs before p
abbrev pub invariant-loop-p : goal.invariant-loop-p
invariant-loop-p g l =
    let k = g.row.K in
    let s = l.simples in
    let places = places_before k s l.l l.p in AreAt (λ q weighted. IsWeighted k s l.l (get_or places q 0) weighted) (length places) l.row.items
