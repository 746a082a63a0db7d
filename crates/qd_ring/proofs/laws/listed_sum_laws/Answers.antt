use Rattle.qd_ring.proofs.ListedSums.{listed_formed}
use Rattle.qd_ring.proofs.laws.listed_sum_laws.Goals as goal

pub returns-clause-formed : goal.returns-clause-formed
returns-clause-formed c = listed_formed
