use Rattle.qd_engine.proofs.Names.{◌+◌, map, sym, ap, ap₂, ◌∙◌, le_antisymm, arith, sum, range_with_len, twist_at}
use Rattle.qd_engine.proofs.Summaries.{sum_more}
use Rattle.qd_engine.proofs.summary.sum_of_twists.Goals as goal

pub loop-i-preserved : goal.loop-i-preserved
loop-i-preserved g c = record {
  few = omega (arith, c.loop-i.invariant.few);
  kept = ap₂ (λ a b. a + b) c.loop-i.invariant.kept c.twist.ensures.twist ∙ sym (sum_more (twist_at g.row.K c.args.simples.now) c.loop-i.i);
}

pub returns : goal.returns
returns g c = record {
  sum = c.loop-i.invariant.kept
      ∙ ap (λ n. sum (map (twist_at g.row.K c.args.simples.now) (range_with_len 0 n))) (le_antisymm c.loop-i.auto.i-end c.loop-i-test.false ∙ c.count-i-end.ensures.count);
}
