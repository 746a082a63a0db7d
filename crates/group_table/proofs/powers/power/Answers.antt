use Rattle.orders.proofs.Powers.{power_below}
use Rattle.group_table.proofs.Sentences.{group_below}
use Rattle.group_table.proofs.powers.power.Goals as goal

pub product-reached-requires-clause-g_below : goal.product-reached-requires-clause-g_below
product-reached-requires-clause-g_below c =
    rw (c.loop-step.invariant, c.requires.identity)
    (power_below _ _ _ (group_below _ c.requires.group) c.args.g c.loop-step._step c.requires.g_below)
