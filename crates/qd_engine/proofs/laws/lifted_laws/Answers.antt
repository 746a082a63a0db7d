use Rattle.qd_engine.proofs.LiftedCauses.{lifted_causes}
use Rattle.qd_engine.proofs.LiftedSizes.{lifted_sizes}
use Rattle.qd_engine.proofs.laws.lifted_laws.Goals as goal

pub returns : goal.returns
returns c = record { causes = lifted_causes; sizes = lifted_sizes }
