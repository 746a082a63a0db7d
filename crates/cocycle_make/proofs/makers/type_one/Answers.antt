use Rattle.cocycle_make.proofs.Names.{rules, ap, step_of, type_one_value}
use Rattle.cocycle_make.proofs.Lawful.{type_one_lawful}
use Rattle.cocycle_make.proofs.Made.{made, made_order}
use Rattle.cocycle_make.proofs.makers.type_one.Goals as goal

pub from_lawful-requires-clause-lawful : goal.from_lawful-requires-clause-lawful
from_lawful-requires-clause-lawful c =
    let n = c.args.n in
    let step = c.step_of-step.result in
    let (accepted, built) = c.in_ok-group.ensures.made in
    made _ _ _ _ _ _ (type_one_value n step) (type_one_value n (step_of n c.args.p)) built c.roots_of.ensures.roots c.order-order.ensures.order
    (ap (λ s. type_one_value n s) c.step_of-step.ensures.step) (c.in_ok-exponents.ensures.exponents (type_one_value n step) (search rules))
    (type_one_lawful n c.args.p (made_order n _ built c.order-order.ensures.small).from_one)
