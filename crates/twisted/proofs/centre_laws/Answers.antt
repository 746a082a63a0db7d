use Rattle.twisted.proofs.AlgebraLaws.{central_combination, combination_unique}
use Rattle.twisted.proofs.centre_laws.Goals as goal

pub returns-clause-spans : goal.returns-clause-spans
returns-clause-spans g c = central_combination (g.R.Ring.ops c.args.ring.now) (g.R.Ring.unit c.args.ring.now)

pub returns-clause-unique : goal.returns-clause-unique
returns-clause-unique g c = combination_unique (g.R.Ring.ops c.args.ring.now) (g.R.Ring.unit c.args.ring.now)
