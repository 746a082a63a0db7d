use Rattle.qd_ring.proofs.ThirdsLaws.{even_multiple, odd_multiple}
use Rattle.qd_ring.proofs.sum.tests.ThirdsRing.try_scale.Goals as goal

pub returns-then-e-eq0-clause-multiple : goal.returns-then-e-eq0-clause-multiple
returns-then-e-eq0-clause-multiple c = even_multiple _ _ c.if-e-eq0.true

pub returns-else-e-eq0-clause-multiple : goal.returns-else-e-eq0-clause-multiple
returns-else-e-eq0-clause-multiple c = odd_multiple _ _ c.if-e-eq0.false
