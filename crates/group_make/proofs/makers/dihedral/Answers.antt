use Rattle.group_make.proofs.Names.{rules, ◌*◌, arith, dihedral_product}
use Rattle.group_make.proofs.Tables.{made_group, table_group}
use Rattle.group_make.proofs.FormulaGroups.{dihedral_below}
use Rattle.group_make.proofs.makers.dihedral.Goals as goal

pub from_lawful-requires-clause-group : goal.from_lawful-requires-clause-group
from_lawful-requires-clause-group c =
    let (none, order, small) = c.in_ok-order.ensures.small in
    let op = dihedral_product c.args.n in
    made_group c.in_ok-order.order (2 * c.args.n) op c.in_ok-table.table order (c.in_ok-table.ensures.pairs op (search rules))
    (table_group _ _ op (dihedral_below c.args.n (omega (arith, small.from_one))))
