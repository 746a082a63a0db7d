use Rattle.fusion.proofs.Names.{◌≡◌, get_or, sum_below, cyclotomic_ring, folded_value, members_at, tensor_part}
use Rattle.fusion.proofs.making.folded_tensor.Given as goal

-- the parts of the members before place q
abbrev pub invariant-loop-q : goal.invariant-loop-q
invariant-loop-q g l =
    let k = g.row.K in
    folded_value k l.folded ≡ sum_below (cyclotomic_ring k) l.q (λ q. (tensor_part k l.simples l.i l.j l.g l.x (get_or (members_at k l.simples l.i) q 0)).value)
