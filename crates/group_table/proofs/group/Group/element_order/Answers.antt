use Rattle.orders.proofs.Exponents.{order_is_least, order_at_most_size}
use Rattle.group_table.proofs.Sentences.{group_below}
use Rattle.group_table.proofs.group.Group.element_order.Goals as goal

pub returns-clause-least : goal.returns-clause-least
returns-clause-least c =
    rw (c.element_order.ensures.order, c.as_slice.ensures.numbers, c.self.invariant.identity_is, ← c.self.view_is)
    (order_is_least _ _ _ (group_below _ c.self.invariant.group) c.args.g (rw (← c.self.view_is) at c.requires.g_below))

pub returns-clause-positive : goal.returns-clause-positive
returns-clause-positive c =
    rw (c.element_order.ensures.order, c.as_slice.ensures.numbers, c.self.invariant.identity_is)
    (order_is_least _ _ _ (group_below _ c.self.invariant.group) c.args.g (rw (← c.self.view_is) at c.requires.g_below)).positive

pub returns-clause-at_most_order : goal.returns-clause-at_most_order
returns-clause-at_most_order c =
    rw (c.element_order.ensures.order, c.as_slice.ensures.numbers, c.self.invariant.identity_is, ← c.self.view_is)
    (order_at_most_size _ _ _ (group_below _ c.self.invariant.group) c.args.g (rw (← c.self.view_is) at c.requires.g_below))
