use Rattle.group_make.proofs.Names.{rules, ◌*◌, arith, triple_product}
use Rattle.group_make.proofs.Tables.{made_group, table_group}
use Rattle.group_make.proofs.FormulaGroups.{product_below}
use Rattle.group_make.proofs.Bounds.{small_factors}
use Rattle.group_make.proofs.makers.product.Goals as goal

pub from_lawful-requires-clause-group : goal.from_lawful-requires-clause-group
from_lawful-requires-clause-group c =
    let (none, order, small) = c.in_ok-order.ensures.small in
    let op = triple_product c.args.a c.args.b c.args.c in
    let outer = small_factors (c.args.a * c.args.b) c.args.c (omega (arith, small.from_one)) (omega (arith, small.to_sixty)) in
    let inner = small_factors c.args.a c.args.b outer.left_positive outer.left_few in
    made_group c.in_ok-order.order (c.args.a * c.args.b * c.args.c) op c.in_ok-table.table order (c.in_ok-table.ensures.pairs op (search rules))
    (table_group _ _ op (product_below c.args.a c.args.b c.args.c inner.left_positive inner.right_positive outer.right_positive))
