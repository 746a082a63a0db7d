use Rattle.orders.proofs.Exponents.{exponent_is_least, exponent_at_most_size}
use Rattle.group_table.proofs.Sentences.{group_below}
use Rattle.group_table.proofs.group.Group.exponent.Goals as goal

pub returns-clause-least : goal.returns-clause-least
returns-clause-least c =
    rw (c.exponent.ensures.exponent, c.as_slice.ensures.numbers, c.self.invariant.identity_is, ← c.self.view_is)
    (exponent_is_least _ _ _ (group_below _ c.self.invariant.group))

pub returns-clause-positive : goal.returns-clause-positive
returns-clause-positive c =
    rw (c.exponent.ensures.exponent, c.as_slice.ensures.numbers, c.self.invariant.identity_is)
    (exponent_is_least _ _ _ (group_below _ c.self.invariant.group)).positive

pub returns-clause-at_most_order : goal.returns-clause-at_most_order
returns-clause-at_most_order c =
    rw (c.exponent.ensures.exponent, c.as_slice.ensures.numbers, c.self.invariant.identity_is, ← c.self.view_is)
    (exponent_at_most_size _ _ _ (group_below _ c.self.invariant.group))
