use Rattle.qd_ring.proofs.Names.{below_equal}
use Rattle.qd_ring.proofs.root.RootUnitGroup.compose.Goals as goal

pub returns : goal.returns
returns g c h = below_equal _ _ c.mul.ensures
