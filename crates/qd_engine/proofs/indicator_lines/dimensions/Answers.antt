use Rattle.qd_engine.proofs.Names.{◌∙◌, map, ap, le_antisymm, range_with_len, dimension_at}
use Rattle.qd_engine.proofs.NumberLines.{one_longer, one_more}
use Rattle.qd_engine.proofs.indicator_lines.dimensions.Goals as goal

pub loop-i-preserved : goal.loop-i-preserved
loop-i-preserved g c =
    let (number, are) = c.loop-i.invariant in
    let pushed = c.in_ok-push.ensures.added in
    (one_longer _ _ _ c.loop-i.i pushed number, one_more (dimension_at g.row.K c.args.simples.now) _ _ _ c.loop-i.i pushed are c.dimension.ensures.dimension)

pub returns : goal.returns
returns g c = record {
  dimensions = c.loop-i.invariant.1
      ∙ ap (λ n. map (dimension_at g.row.K c.args.simples.now) (range_with_len 0 n)) (le_antisymm c.loop-i.auto.i-end c.loop-i-test.false ∙ c.count-i-end.ensures.count);
}
