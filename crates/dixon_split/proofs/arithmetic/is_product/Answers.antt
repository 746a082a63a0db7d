use Rattle.prime_field.proofs.Inverses.{residues_fit}
use Rattle.dixon_split.proofs.arithmetic.is_product.Goals as goal

pub overflow_mul-result : goal.overflow_mul-result
overflow_mul-result c = residues_fit c.args.q c.requires.modulus c.args.v c.args.factor c.requires.v_below c.requires.factor_below
