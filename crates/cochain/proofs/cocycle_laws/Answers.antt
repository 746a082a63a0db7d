use Rattle.cochain.proofs.Lawful.{cocycle_exactly}
use Rattle.cochain.proofs.cocycle_laws.Goals as goal

pub returns : goal.returns
returns c = record { exactly = cocycle_exactly }
