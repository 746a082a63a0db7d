use Rattle.qd_steps.proofs.Names.{[], take, ap, ◌∙◌, arith, row_at, with_value, block_at}
use Rattle.qd_steps.proofs.TableRows.{value_more}
use Rattle.qd_steps.proofs.block_rows.push_values.Goals as goal

pub loop-p-preserved : goal.loop-p-preserved
loop-p-preserved g c =
    let rows = (block_at c.args.blocks.now c.args.b).rows in
    let row = row_at rows c.args.r in
    value_more (take c.args.r rows) c.push_value.new.self row c.loop-p.p c.in-Some.value.coefficients [] (omega (arith, c.width-p-end.ensures.count, c.loop-p-test.true))
    (c.in_ok-push_value-in-Some.ensures.added ∙ ap (λ before. with_value before c.in-Some.value.coefficients) c.loop-p.invariant)
    (c.in-Some.ensures.value ∙ c.value.ensures.value)
