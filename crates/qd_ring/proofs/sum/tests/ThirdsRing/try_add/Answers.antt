use Rattle.qd_ring.proofs.ThirdsLaws.{sum_residue}
use Rattle.qd_ring.proofs.sum.tests.ThirdsRing.try_add.Goals as goal

pub returns-clause-sum : goal.returns-clause-sum
returns-clause-sum c = sum_residue _ _
