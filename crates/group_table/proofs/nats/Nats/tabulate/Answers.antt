use Rattle.std.proofs.Common.{◌≡◌, ap, ◌∙◌, arith, length-append}
use Rattle.group_table.specs.Numbers.{tabulated}
use Rattle.group_table.proofs.Numbers.{tabulated-more}
use Rattle.group_table.proofs.nats.Nats.tabulate.Goals as goal

pub loop-i-preserved : goal.loop-i-preserved
loop-i-preserved g c = record {
  count = rw c.in_ok-push.ensures.added (simp length-append (omega arith));
  kept = λ at each.
      tabulated-more c.loop-i.i at (c.loop-i.invariant.kept at each) c.in_ok-push.ensures.added
      (each c.loop-i.i c.number.result c.loop-i-test.true c.number.ensures);
}

pub returns : goal.returns
returns g c = record {
  count = omega arith;
  tabulated = λ at each.
      let end : c.loop-i.i ≡ c.args.n = omega arith in
      c.loop-i.invariant.kept at each ∙ ap (λ n. tabulated n at) end;
}
