use Rattle.transport.proofs.Names.{◌<◌, subst, SimplesOver, count, IsVacuumAt}
use Rattle.transport.proofs.Listed.{vacuum_is}
use Rattle.transport.proofs.simples.Simples.vacuum.Goals as goal

pub returns-clause-below : goal.returns-clause-below
returns-clause-below g c = subst (λ (s : SimplesOver). 0 < count g.row.K s) c.self.view_is (vacuum_is g.row.K _ c.self.invariant.simples).0

pub returns-clause-vacuum : goal.returns-clause-vacuum
returns-clause-vacuum g c = subst (λ (s : SimplesOver). IsVacuumAt g.row.K s 0) c.self.view_is (vacuum_is g.row.K _ c.self.invariant.simples).1
