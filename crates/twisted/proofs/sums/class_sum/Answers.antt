use Rattle.twisted.proofs.Names.{◌≡◌, ℕ, ◌<◌, length, ◌∙◌, ap, sym, arith, length-set, All-set, power, Table, conjugate, size, kappa, coefficient, exponent, root}
use Rattle.twisted.proofs.Coefficients.{coefficient_nought}
use Rattle.twisted.proofs.ClassSums.{partial_sum, partial_sum-zero, partial_sums_step, same_central}
use Rattle.twisted.proofs.sums.class_sum.Goals as goal

pub loop-c-init : goal.loop-c-init
loop-c-init g c = record {
  count = c.in_ok-sum.ensures.size;
  values = c.in_ok-sum.ensures.values;
  sums = λ y below.
      coefficient_nought (g.R.Ring.of c.args.ring.now) (g.R.Ring.ops c.args.ring.now).nought c.in_ok-sum.sum c.in_ok-sum.ensures.zero y (omega (arith, c.in_ok-sum.ensures.size))
      ∙ sym (partial_sum-zero (g.R.Ring.ops c.args.ring.now) (g.R.Ring.unit c.args.ring.now) c.args.twist.now c.args.p y);
}

pub loop-c-preserved : goal.loop-c-preserved
loop-c-preserved g c =
    let group = c.group.ensures.group in
    let carried : c.conjugate-carried.result ≡ conjugate c.args.twist.now.group c.loop-c.c c.args.p =
    c.conjugate-carried.ensures.conjugate ∙ ap (λ (t : Table). conjugate t c.loop-c.c c.args.p) group in
    let inside : c.conjugate-carried.result < length c.loop-c.sum =
    omega (arith, c.loop-c.invariant.count, c.conjugate-carried.ensures.below, ap (λ (t : Table). t.order) group) in
    let value : g.R.Ring.of c.args.ring.now c.root_of.result ≡ root (g.R.Ring.ops c.args.ring.now) (g.R.Ring.unit c.args.ring.now) c.args.twist.now (kappa c.args.twist.now c.loop-c.c c.args.p) =
    c.root_of.ensures.root
    ∙ ap (λ (e : ℕ). power (g.R.Ring.ops c.args.ring.now) (g.R.Ring.unit c.args.ring.now).root e)
    (c.exponent-e.ensures.exponent ∙ ap (exponent (g.R.Ring.order c.args.ring.now) c.args.twist.now) c.kappa.ensures.kappa) in
    let place : c.loop-c.c < size c.args.twist.now = omega (arith, c.size-c-end.ensures.size) in
    rw c.set.ensures.set
    (record {
      count = rw length-set c.loop-c.invariant.count;
      values = All-set (g.R.Ring.IsValue c.args.ring.now) c.loop-c.sum c.conjugate-carried.result c.root_of.result c.root_of.ensures.value c.loop-c.invariant.values;
      sums = partial_sums_step (g.R.Ring.ops c.args.ring.now) (g.R.Ring.unit c.args.ring.now) c.args.twist.now c.args.p c.size-c-end.ensures.twist c.requires.p_below c.requires.regular
          (g.R.Ring.of c.args.ring.now) c.loop-c.sum c.loop-c.c c.conjugate-carried.result c.root_of.result place inside carried value c.loop-c.invariant.sums;
    })

pub returns-clause-central : goal.returns-clause-central
returns-clause-central g c =
    let all : c.loop-c.c ≡ size c.args.twist.now = omega (arith, c.size-c-end.ensures.size) in
    same_central (g.R.Ring.ops c.args.ring.now) (g.R.Ring.unit c.args.ring.now) c.args.twist.now c.args.p c.size-c-end.ensures.twist c.requires.p_below c.requires.regular
    c.requires.order (coefficient (g.R.Ring.of c.args.ring.now) (g.R.Ring.ops c.args.ring.now).nought c.loop-c.sum)
    (λ y below.
    c.loop-c.invariant.sums y below
    ∙ ap (λ i. partial_sum (g.R.Ring.ops c.args.ring.now) (g.R.Ring.unit c.args.ring.now) c.args.twist.now c.args.p i y) all)
