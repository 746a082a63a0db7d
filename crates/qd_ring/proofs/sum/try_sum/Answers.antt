use Rattle.qd_ring.proofs.Names.{◌∙◌, sym, sum_list_nil}
use Rattle.qd_ring.proofs.ListedSums.{sum_taken, overflow_shown}
use Rattle.qd_ring.proofs.sum.try_sum.Goals as goal

pub loop-term-init : goal.loop-term-init
loop-term-init g c = record {
  value = c.zero-sum.ensures.value;
  sum = c.zero-sum.ensures.nought ∙ sym (sum_list_nil (g.R.Ring.ops c.args.ring.now));
}

pub returns-in_default-clause-overflow : goal.returns-in_default-clause-overflow
returns-in_default-clause-overflow g c =
    overflow_shown (g.R.Ring.ops c.args.ring.now) (g.R.Ring.of c.args.ring.now) c.args.terms.now (g.R.Ring.rules c.args.ring.now)
    c.loop-term.term-index _ c.term-item.result c.loop-term-test.true c.term-item.is c.loop-term.invariant.sum (sym c.in_default.ensures.fits)

pub loop-term-preserved : goal.loop-term-preserved
loop-term-preserved g c = record {
  value = c.in-Some.ensures.value;
  sum = c.in-Some.ensures.sum
      ∙ sum_taken (g.R.Ring.ops c.args.ring.now) (g.R.Ring.of c.args.ring.now) c.args.terms.now
      c.loop-term.term-index _ c.term-item.result c.loop-term-test.true c.term-item.is c.loop-term.invariant.sum;
}
