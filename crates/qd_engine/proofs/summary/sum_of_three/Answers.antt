use Rattle.qd_engine.proofs.Names.{◌≡◌, ◌+◌, ◌*◌, ◌/◌, ◌%◌, map, sym, ap, ap₂, ◌∙◌, arith, sum, range_with_len, edge_below, row_below, column_below}
use Rattle.qd_engine.proofs.Summaries.{of_place, sum_more}
use Rattle.qd_engine.proofs.summary.sum_of_three.Goals as goal

pub loop-p-preserved : goal.loop-p-preserved
loop-p-preserved g c = record {
  few = omega (arith, c.loop-p.invariant.few);
  kept = λ at each.
      let p = c.loop-p.p in
      let n = c.args.n in
      let below = c.loop-p-test.true in
      let here = each (p / n / n) (p / n % n) (p % n) c.number.result (edge_below n p below) (row_below n p below) (column_below n p below) c.number.ensures in
      ap₂ (λ a b. a + b) (c.loop-p.invariant.kept at each) here ∙ sym (sum_more (of_place n at) p);
}

pub returns : goal.returns
returns g c = record {
  sum = λ at each.
      let n = c.args.n in
      let end : c.loop-p.p ≡ n * n * n = omega arith in
      c.loop-p.invariant.kept at each ∙ ap (λ m. sum (map (of_place n at) (range_with_len 0 m))) end;
}
