use Rattle.qd_engine.proofs.Names.{◌<◌, ◌∙◌, map, ap, le_antisymm, range_with_len, twist_at}
use Rattle.qd_engine.proofs.NumberLines.{one_longer, one_more, all_more}
use Rattle.qd_engine.proofs.indicator_lines.twists.Goals as goal

pub loop-i-preserved : goal.loop-i-preserved
loop-i-preserved g c =
    let pushed = c.in_ok-push.ensures.added in
    record {
      count = one_longer _ _ _ c.loop-i.i pushed c.loop-i.invariant.count;
      kept = one_more (twist_at g.row.K c.args.simples.now) _ _ _ c.loop-i.i pushed c.loop-i.invariant.kept c.twist.ensures.twist;
      below = all_more (λ t. t < g.row.K) _ _ _ pushed c.loop-i.invariant.below c.twist.ensures.below;
    }

pub returns-clause-twists : goal.returns-clause-twists
returns-clause-twists g c =
    c.loop-i.invariant.kept
    ∙ ap (λ n. map (twist_at g.row.K c.args.simples.now) (range_with_len 0 n)) (le_antisymm c.loop-i.auto.i-end c.loop-i-test.false ∙ c.count-i-end.ensures.count)
