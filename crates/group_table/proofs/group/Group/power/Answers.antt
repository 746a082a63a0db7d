use Rattle.orders.proofs.Powers.{power_below}
use Rattle.group_table.proofs.Sentences.{group_below, power_reduced}
use Rattle.group_table.proofs.group.Group.power.Goals as goal

pub returns-clause-power : goal.returns-clause-power
returns-clause-power c =
    rw (c.power.ensures.power, c.as_slice.ensures.numbers, c.self.invariant.identity_is, ← c.self.view_is)
    (power_reduced _ c.args.g c.args.j c.self.invariant.group (rw (← c.self.view_is) at c.requires.g_below))

pub returns-clause-below : goal.returns-clause-below
returns-clause-below c =
    rw (c.power.ensures.power, c.as_slice.ensures.numbers, c.self.invariant.identity_is, ← c.self.view_is)
    (power_below _ _ _ (group_below _ c.self.invariant.group) c.args.g _ (rw (← c.self.view_is) at c.requires.g_below))
