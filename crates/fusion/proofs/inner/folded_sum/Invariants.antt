use Rattle.fusion.proofs.Names.{◌≡◌, get_or, sum_below, cyclotomic_ring, folded_value, places_of, orbit_term}
use Rattle.fusion.proofs.inner.folded_sum.Given as goal

-- the terms at the places before the index
abbrev pub invariant-loop-weighted : goal.invariant-loop-weighted
invariant-loop-weighted g l =
    let k = g.row.K in
    folded_value k l.folded ≡ sum_below (cyclotomic_ring k) l.weighted-index (λ q. orbit_term k l.simples l.i l.j l.l (get_or (places_of k l.simples l.l) q 0))
