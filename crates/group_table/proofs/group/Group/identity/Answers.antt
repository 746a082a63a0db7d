use Rattle.group_table.proofs.Sentences.{identity_below}
use Rattle.group_table.proofs.group.Group.identity.Goals as goal

pub returns-clause-below : goal.returns-clause-below
returns-clause-below c = rw (← c.self.view_is) (identity_below _ c.self.invariant.group)
