use Rattle.group_table.proofs.Sentences.{listed_inverse}
use Rattle.group_table.proofs.group.Group.inverse.Goals as goal

pub returns-clause-below : goal.returns-clause-below
returns-clause-below c =
    rw (c.at.ensures.number, ← c.self.view_is)
    (listed_inverse _ _ c.args.g c.self.invariant.group c.self.invariant.inverses_are (rw (← c.self.view_is) at c.requires.g_below)).below

pub returns-clause-right : goal.returns-clause-right
returns-clause-right c =
    rw (c.at.ensures.number, ← c.self.view_is)
    (listed_inverse _ _ c.args.g c.self.invariant.group c.self.invariant.inverses_are (rw (← c.self.view_is) at c.requires.g_below)).right

pub returns-clause-left : goal.returns-clause-left
returns-clause-left c =
    rw (c.at.ensures.number, ← c.self.view_is)
    (listed_inverse _ _ c.args.g c.self.invariant.group c.self.invariant.inverses_are (rw (← c.self.view_is) at c.requires.g_below)).left
