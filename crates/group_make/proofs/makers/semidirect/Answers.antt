use Rattle.group_make.proofs.Names.{rules, ◌*◌, arith, semidirect_product}
use Rattle.group_make.proofs.Tables.{made_group, table_group}
use Rattle.group_make.proofs.FormulaGroups.{semidirect_below}
use Rattle.group_make.proofs.Bounds.{small_factors, acts_once}
use Rattle.group_make.proofs.makers.semidirect.Goals as goal

pub from_lawful-requires-clause-group : goal.from_lawful-requires-clause-group
from_lawful-requires-clause-group c =
    let (none, order, small) = c.in_ok-order.ensures.small in
    let op = semidirect_product c.args.n c.args.m c.args.r in
    let factors = small_factors c.args.n c.args.m (omega (arith, small.from_one)) (omega (arith, small.to_sixty)) in
    made_group c.in_ok-order.order (c.args.n * c.args.m) op c.in_ok-table.table order (c.in_ok-table.ensures.pairs op (search rules))
    (table_group _ _ op (semidirect_below c.args.n c.args.m c.args.r factors.left_positive factors.right_positive (acts_once _ _ _ c.in_ok-check_action.ensures.acts)))
