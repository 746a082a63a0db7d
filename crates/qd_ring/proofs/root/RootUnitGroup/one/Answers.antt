use Rattle.qd_ring.proofs.Names.{sym, zero-mod, below_equal, conductor_positive}
use Rattle.qd_ring.proofs.root.RootUnitGroup.one.Goals as goal

pub invariant_of-result : goal.invariant_of-result
invariant_of-result g c = record { conductor = c.requires; reduced = conductor_positive g.row.K c.requires }

pub returns : goal.returns
returns g c h = below_equal _ _ (sym (zero-mod g.row.K))
