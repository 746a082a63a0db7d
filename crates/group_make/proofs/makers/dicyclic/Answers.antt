use Rattle.group_make.proofs.Names.{rules, ◌*◌, arith, dicyclic_product}
use Rattle.group_make.proofs.Tables.{made_group, table_group}
use Rattle.group_make.proofs.FormulaGroups.{dicyclic_below}
use Rattle.group_make.proofs.makers.dicyclic.Goals as goal

pub from_lawful-requires-clause-group : goal.from_lawful-requires-clause-group
from_lawful-requires-clause-group c =
    let (none, order, small) = c.in_ok-order.ensures.small in
    let op = dicyclic_product c.args.n in
    made_group c.in_ok-order.order (4 * c.args.n) op c.in_ok-table.table order (c.in_ok-table.ensures.pairs op (search rules))
    (table_group _ _ op (dicyclic_below c.args.n (omega (arith, small.from_one))))
