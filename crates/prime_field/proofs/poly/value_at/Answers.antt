use Rattle.prime_field.proofs.Names.{drop, sym, ap, ◌∙◌, arith, drop-length, value_at, modulus_positive}
use Rattle.prime_field.proofs.PolynomialValues.{value_at_below, value_step}
use Rattle.prime_field.proofs.poly.value_at.Goals as goal

pub loop-i-init : goal.loop-i-init
unfolding value_at
loop-i-init c = sym (ap (value_at c.args.q c.args.x) (drop-length c.args.coefficients.now))

pub plus_product-value-requires-clause-y_below : goal.plus_product-value-requires-clause-y_below
plus_product-value-requires-clause-y_below c =
    let below = value_at_below c.args.q c.args.x (drop c.loop-i.i c.args.coefficients.now) (modulus_positive c.args.q c.requires.modulus) in
    omega (arith, c.loop-i.invariant, below)

pub loop-i-preserved : goal.loop-i-preserved
loop-i-preserved c =
    c.plus_product-value.ensures.sum
    ∙ value_step c.args.q c.args.x c.loop-i.i c.loop-i.value c.args.coefficients.now c.loop-i-test.true c.loop-i.auto.i c.loop-i.invariant
