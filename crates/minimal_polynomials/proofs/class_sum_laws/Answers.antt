use Rattle.minimal_polynomials.proofs.ClassSums.{there, splits}
use Rattle.minimal_polynomials.proofs.class_sum_laws.Goals as goal

pub returns-clause-there : goal.returns-clause-there
returns-clause-there c = λ s serves i below. there c.args.ring.now s serves i below

pub returns-clause-splits : goal.returns-clause-splits
returns-clause-splits c = λ s serves i below f minimal. splits c.args.ring.now s serves i below f minimal
