use Rattle.dixon_split.proofs.Names.{◌≡◌, ◌∙◌, ap, arith, sum_below, modulus_positive, size, term_at}
use Rattle.dixon_split.specs.ClassSums.{residue_field}
use Rattle.dixon_split.proofs.ClassSums.{sum_begun, sum_grown}
use Rattle.dixon_split.proofs.class_sums.product_at.Goals as goal

pub loop-y-init : goal.loop-y-init
loop-y-init c = record {
  below = modulus_positive c.args.ring.now.q c.args.ring.now.listed;
  so_far = sum_begun c.args.ring.now.q c.args.ring.now.listed (term_at c.args.ring.now c.args.twist.now c.args.a.now c.args.b.now c.args.x);
}

pub loop-y-preserved : goal.loop-y-preserved
loop-y-preserved c = record {
  below = c.plus_term-sum.ensures.below;
  so_far = sum_grown c.args.ring.now.q c.args.ring.now.listed c.loop-y.y c.loop-y.sum c.plus_term-sum.result (term_at c.args.ring.now c.args.twist.now c.args.a.now c.args.b.now c.args.x)
      c.loop-y.invariant.so_far c.plus_term-sum.ensures.sum;
}

pub returns-clause-value : goal.returns-clause-value
returns-clause-value c =
    let all : c.loop-y.y ≡ size c.args.twist.now = omega arith in
    c.loop-y.invariant.so_far ∙ ap (λ n. (sum_below (residue_field c.args.ring.now) n (term_at c.args.ring.now c.args.twist.now c.args.a.now c.args.b.now c.args.x)).value) all
