use Rattle.group_table.proofs.Sentences.{closed}
use Rattle.group_table.proofs.group.Group.product.Goals as goal

pub returns-clause-below : goal.returns-clause-below
returns-clause-below c =
    rw (← c.self.view_is) (closed _ c.args.g c.args.h c.self.invariant.group (rw (← c.self.view_is) at c.requires.g_below) (rw (← c.self.view_is) at c.requires.h_below))
