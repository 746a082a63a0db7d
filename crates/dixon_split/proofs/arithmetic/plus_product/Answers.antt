use Rattle.dixon_split.proofs.Names.{arith, ◌%◌, ap, sym, ◌∙◌, mod-eq_of_lt, plus_product_value}
use Rattle.prime_field.proofs.PolynomialValues.{modulus_small, product_small}
use Rattle.dixon_split.proofs.arithmetic.plus_product.Goals as goal

pub overflow_mul-product : goal.overflow_mul-product
overflow_mul-product c = record {
  fits = omega (arith, product_small c.args.q c.args.a c.args.x c.args.y (modulus_small c.args.q c.requires.modulus) c.requires.a_below c.requires.x_below c.requires.y_below);
}

pub overflow_add-result : goal.overflow_add-result
overflow_add-result c = record {
  fits = omega (arith, product_small c.args.q c.args.a c.args.x c.args.y (modulus_small c.args.q c.requires.modulus) c.requires.a_below c.requires.x_below c.requires.y_below);
}

pub returns-then-product-eq0-clause-residue : goal.returns-then-product-eq0-clause-residue
returns-then-product-eq0-clause-residue c = λ listed.
    sym (mod-eq_of_lt c.requires.a_below) ∙ ap (λ n. n % c.args.q) (let nought = c.if-product-eq0 in omega (arith))
    ∙ plus_product_value c.args.q listed c.args.a c.args.x c.args.y

pub returns-clause-residue : goal.returns-clause-residue
returns-clause-residue c = λ listed. plus_product_value c.args.q listed c.args.a c.args.x c.args.y
