use Rattle.qd_ring.proofs.ThirdsLaws.{product_residue}
use Rattle.qd_ring.proofs.sum.tests.ThirdsRing.try_mul.Goals as goal

pub returns-clause-product : goal.returns-clause-product
returns-clause-product c = product_residue _ _
