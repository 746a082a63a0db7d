use Rattle.prime_field.proofs.Inverses.{residues_fit}
use Rattle.char_lift.proofs.root_powers.RootPowers.product.Goals as goal

pub overflow_mul-result : goal.overflow_mul-result
overflow_mul-result c = residues_fit c.args.self.now.q c.args.self.now.listed c.args.a c.args.b c.requires.a_below c.requires.b_below
