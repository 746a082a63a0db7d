use Rattle.prime_field.specs.Laws.Field.{least_root_means}
use Rattle.prime_field.proofs.mod_ring.ModRing.root.Goals as goal

pub returns-clause-below : goal.returns-clause-below
returns-clause-below c = (least_root_means c.args.self.now.q c.args.self.now.conductor c.args.self.now.root c.args.self.now.least).below
