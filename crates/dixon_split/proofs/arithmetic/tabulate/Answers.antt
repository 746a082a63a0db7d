use Rattle.dixon_split.proofs.Names.{◌≡◌, arith, subst, IsTabulated, tabulated_push}
use Rattle.dixon_split.proofs.arithmetic.tabulate.Goals as goal

pub loop-i-preserved : goal.loop-i-preserved
loop-i-preserved g c = λ value each.
    tabulated_push c.loop-i.i c.at.result value c.loop-i.numbers.items c.push.new.self.items (c.loop-i.invariant value each) c.in_ok-push.ensures.items
    (each c.loop-i.i c.at.result c.loop-i-test.true c.at.ensures)

pub returns : goal.returns
returns g c = record {
  values = λ value each. (let ended : c.loop-i.i ≡ c.args.n = omega arith in subst (λ n. IsTabulated n value c.loop-i.numbers.items) ended (c.loop-i.invariant value each));
}
