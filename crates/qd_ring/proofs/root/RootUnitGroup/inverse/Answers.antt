use Rattle.qd_ring.proofs.Names.{refl, below_equal}
use Rattle.qd_ring.proofs.root.RootUnitGroup.inverse.Goals as goal

pub returns : goal.returns
returns g c h = below_equal _ _ refl
