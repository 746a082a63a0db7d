use Rattle.std.proofs.Common.{◌≡◌}
use Rattle.orders.specs.Group.{power}
use Rattle.group_table.specs.Group.{product}
use Rattle.group_table.proofs.powers.power.Given as goal

abbrev pub invariant-loop-step : goal.invariant-loop-step
invariant-loop-step l = l.reached ≡ power (product (record { order = l.n; entries = l.table })) l.e l.g l._step
