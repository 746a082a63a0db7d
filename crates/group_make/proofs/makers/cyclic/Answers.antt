use Rattle.group_make.proofs.Names.{rules, arith, cyclic_product}
use Rattle.group_make.proofs.Tables.{made_group, table_group}
use Rattle.group_make.proofs.Extensions.{cyclic_below}
use Rattle.group_make.proofs.makers.cyclic.Goals as goal

pub from_lawful-requires-clause-group : goal.from_lawful-requires-clause-group
from_lawful-requires-clause-group c =
    let (none, order, small) = c.in_ok-order.ensures.small in
    made_group c.in_ok-order.order c.args.n (cyclic_product c.args.n) c.in_ok-table.table order (c.in_ok-table.ensures.pairs (cyclic_product c.args.n) (search rules))
    (table_group _ 0 _ (cyclic_below c.args.n (omega (arith, small.from_one))))
