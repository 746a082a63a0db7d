use Rattle.qd_ring.proofs.Names.{ap, ◌∙◌, sym, arith, sum_below, sum_zero}
use Rattle.qd_ring.proofs.ListedSums.{overflow_by_step, overflow_by_size, sum_below_more, term_stands, term_missing}
use Rattle.qd_ring.proofs.sum.try_sum_below.Goals as goal

pub loop-i-init : goal.loop-i-init
loop-i-init g c = record {
  value = c.zero-sum.ensures.value;
  sum = λ steps_fit value each. c.zero-sum.ensures.nought ∙ sym (sum_zero (g.R.Ring.ops c.args.ring.now) value);
}

pub returns-in_default-clause-overflow : goal.returns-in_default-clause-overflow
returns-in_default-clause-overflow g c = λ steps_fit value each.
    overflow_by_step (g.R.Ring.ops c.args.ring.now) (g.R.Ring.rules c.args.ring.now) value c.args.n steps_fit c.loop-i.i c.loop-i-test.true
    (term_missing (g.R.Ring.of c.args.ring.now) (steps_fit c.loop-i.i) (value c.loop-i.i) c.term.result (each c.loop-i.i c.term.result c.loop-i-test.true c.term.ensures) c.in_default.is)

pub returns-in_default-try_add-clause-overflow : goal.returns-in_default-try_add-clause-overflow
returns-in_default-try_add-clause-overflow g c = λ steps_fit value each.
    overflow_by_size (g.R.Ring.ops c.args.ring.now) (g.R.Ring.rules c.args.ring.now) value c.args.n steps_fit c.loop-i.i c.loop-i-test.true
    (g.R.Ring.of c.args.ring.now c.loop-i.sum) (g.R.Ring.of c.args.ring.now c.in-Some.next) (c.loop-i.invariant.sum steps_fit value each)
    (term_stands (g.R.Ring.of c.args.ring.now) (steps_fit c.loop-i.i) (value c.loop-i.i) c.term.result c.in-Some.next (each c.loop-i.i c.term.result c.loop-i-test.true c.term.ensures) c.in-Some.is)
    (sym c.in_default-try_add.ensures.fits)

pub loop-i-preserved : goal.loop-i-preserved
loop-i-preserved g c = record {
  value = c.in-Some-try_add.ensures.value;
  sum = λ steps_fit value each.
      c.in-Some-try_add.ensures.sum
      ∙ sum_below_more (g.R.Ring.ops c.args.ring.now) value c.loop-i.i (g.R.Ring.of c.args.ring.now c.loop-i.sum) (g.R.Ring.of c.args.ring.now c.in-Some.next) (c.loop-i.invariant.sum steps_fit value each)
      (term_stands (g.R.Ring.of c.args.ring.now) (steps_fit c.loop-i.i) (value c.loop-i.i) c.term.result c.in-Some.next (each c.loop-i.i c.term.result c.loop-i-test.true c.term.ensures) c.in-Some.is);
}

pub returns-clause-sum : goal.returns-clause-sum
returns-clause-sum g c = λ steps_fit value each.
    c.loop-i.invariant.sum steps_fit value each ∙ ap (λ k. sum_below (g.R.Ring.ops c.args.ring.now) k value) (omega arith)
