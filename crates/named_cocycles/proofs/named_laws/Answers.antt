use Rattle.named_cocycles.proofs.Named.{made_is_cocycle}
use Rattle.named_cocycles.proofs.Gauges.{sample_is_cocycle}
use Rattle.named_cocycles.proofs.named_laws.Goals as goal

pub returns-clause-made : goal.returns-clause-made
returns-clause-made c = made_is_cocycle

pub returns-clause-sample : goal.returns-clause-sample
returns-clause-sample c = sample_is_cocycle
