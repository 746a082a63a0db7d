use Rattle.cyclotomic.proofs.LeastConductor.{least_is_least}
use Rattle.cyclotomic.proofs.laws.conductor_laws.Goals as goal

pub returns-clause-least : goal.returns-clause-least
returns-clause-least c = least_is_least
