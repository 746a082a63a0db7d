use Rattle.twisted.proofs.Names.{◌<◌, length, arith, length-set, All-set, coefficient, twisted_product}
use Rattle.twisted.proofs.Coefficients.{coefficients_more}
use Rattle.twisted.proofs.product.mul.Goals as goal

pub loop-place-preserved : goal.loop-place-preserved
loop-place-preserved g c =
    let at = c.loop-place.place in
    let inside : c.loop-place.place < length c.loop-place.product = omega (arith, c.loop-place.invariant.count, c.size-place-end.ensures.size) in
    rw c.set.ensures.set
    (record {
      count = rw length-set c.loop-place.invariant.count;
      values = All-set (g.R.Ring.IsValue c.args.ring.now) c.loop-place.product c.loop-place.place c.in-Some.sum c.in-Some.ensures.value c.loop-place.invariant.values;
      sums = coefficients_more (g.R.Ring.of c.args.ring.now) (g.R.Ring.ops c.args.ring.now).nought c.loop-place.product
          (twisted_product (g.R.Ring.ops c.args.ring.now) (g.R.Ring.unit c.args.ring.now) c.args.twist.now (coefficient (g.R.Ring.of c.args.ring.now) (g.R.Ring.ops c.args.ring.now).nought c.args.a.now) (coefficient (g.R.Ring.of c.args.ring.now) (g.R.Ring.ops c.args.ring.now).nought c.args.b.now))
          c.loop-place.place c.in-Some.sum inside c.loop-place.invariant.sums c.in-Some.ensures.sum;
    })
