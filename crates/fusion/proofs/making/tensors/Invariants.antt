use Rattle.fusion.proofs.Names.{◌≡◌, tensor_character, AreAt, value_or_nought, listed_at}
use Rattle.fusion.proofs.making.tensors.Given as goal

-- the values at the pairs before p
abbrev pub invariant-loop-p : goal.invariant-loop-p
invariant-loop-p g l =
    let k = g.row.K in
    let s = l.simples in
    AreAt (λ p u. value_or_nought k u ≡ (tensor_character k s l.i l.j (listed_at k s p).g (listed_at k s p).h).value) l.p l.tensors.items
