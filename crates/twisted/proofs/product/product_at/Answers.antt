use Rattle.twisted.proofs.Names.{rules, ◌≡◌, ℕ, subst, IfSome, sum_below, phase, left_quotient, coefficient, exponent, product_term}
use Rattle.qd_ring.specs.Fit.{term_fits}
use Rattle.twisted.proofs.product.product_at.Goals as goal

pub returns-clause-sum : goal.returns-clause-sum
returns-clause-sum g c =
    let p = coefficient (g.R.Ring.of c.args.ring.now) (g.R.Ring.ops c.args.ring.now).nought c.args.a.now in
    let r = coefficient (g.R.Ring.of c.args.ring.now) (g.R.Ring.ops c.args.ring.now).nought c.args.b.now in
    let s = c.args.twist.now in
    let term = product_term (g.R.Ring.ops c.args.ring.now) (g.R.Ring.unit c.args.ring.now) s p r c.args.x in
    subst (λ (n : ℕ). IfSome c.try_sum_below.result (λ sum. g.R.Ring.of c.args.ring.now sum ≡ sum_below (g.R.Ring.ops c.args.ring.now) n term))
    c.size.ensures.size
    (c.try_sum_below.ensures.sum
    (λ y. term_fits (g.R.Ring.ops c.args.ring.now) (g.R.Ring.rules c.args.ring.now) (g.R.Ring.unit c.args.ring.now).root (exponent (g.R.Ring.order c.args.ring.now) s (phase s y (left_quotient s y c.args.x))) (p y) (r (left_quotient s y c.args.x)))
    term
    (λ i result below post. search rules))
