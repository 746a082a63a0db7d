use Rattle.fusion.proofs.Names.{◌≡◌, ℕ, List, Option, ap, ◌∙◌, Box, Pair, Monomial, tensor_character, value_or_nought, listed_at}
use Rattle.fusion.proofs.Lists.{one_more}
use Rattle.fusion.proofs.making.tensors.Goals as goal

pub loop-p-preserved : goal.loop-p-preserved
loop-p-preserved g c =
    let k = g.row.K in
    let s = c.args.simples.now in
    let holds : ℕ → Option (Box (List Monomial)) → Type 0 = λ p u. value_or_nought k u ≡ (tensor_character k s c.args.i c.args.j (listed_at k s p).g (listed_at k s p).h).value in
    one_more holds c.loop-p.p c.loop-p.tensors.items c.push.new.self.items c.in_ok-tensor_value.field-0 c.in_ok-push.ensures.items c.loop-p.invariant
    (c.in_ok-tensor_value.ensures.value ∙ ap (λ (pair : Pair). (tensor_character k s c.args.i c.args.j pair.g pair.h).value) c.listed_at-pair.ensures.pair)
