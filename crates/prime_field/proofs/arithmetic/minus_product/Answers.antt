use Rattle.prime_field.proofs.Names.{◌∙◌, minus_multiple}
use Rattle.prime_field.proofs.ResidueSums.{minus_product_value}
use Rattle.prime_field.proofs.arithmetic.minus_product.Goals as goal

pub returns-clause-residue : goal.returns-clause-residue
unfolding minus_multiple
returns-clause-residue c = λ listed.
    c.plus_product.ensures.residue listed
    ∙ minus_product_value c.args.q listed c.args.a c.args.d c.args.c c.args.b c.plus_product-factor.result (c.plus_product-factor.ensures.residue listed)
