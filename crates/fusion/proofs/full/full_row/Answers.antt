use Rattle.fusion.proofs.Names.{◌≡◌, ℕ, List, Option, Box, Monomial, value_or_nought, full_term}
use Rattle.fusion.proofs.Lists.{one_more}
use Rattle.fusion.proofs.full.full_row.Goals as goal

pub loop-x-preserved : goal.loop-x-preserved
loop-x-preserved g c =
    let holds : ℕ → Option (Box (List Monomial)) → Type 0 = λ x u. value_or_nought g.row.K u ≡ (full_term g.row.K c.args.simples.now c.args.i c.args.g x).value in
    one_more holds c.loop-x.x c.loop-x.row.items c.push.new.self.items c.in_ok-full_value.field-0 c.in_ok-push.ensures.items c.loop-x.invariant c.in_ok-full_value.ensures.value
