use Rattle.cocycle_make.proofs.Names.{rules, ap, step_of, type_two_value}
use Rattle.cocycle_make.proofs.Lawful.{type_two_lawful}
use Rattle.cocycle_make.proofs.Made.{made, made_factors}
use Rattle.cocycle_make.proofs.makers.type_two.Goals as goal

pub from_lawful-requires-clause-lawful : goal.from_lawful-requires-clause-lawful
from_lawful-requires-clause-lawful c =
    let a = c.args.a in
    let b = c.args.b in
    let step = c.step_of-step.result in
    let (accepted, built) = c.in_ok-group.ensures.made in
    let factors = made_factors 1 a b _ built c.order-order.ensures.small in
    made _ _ _ _ _ _ (type_two_value b step) (type_two_value b (step_of a c.args.p)) built c.roots_of.ensures.roots c.order-order.ensures.order
    (ap (λ s. type_two_value b s) c.step_of-step.ensures.step) (c.in_ok-exponents.ensures.exponents (type_two_value b step) (search rules))
    (type_two_lawful a b c.args.p factors.b_positive factors.c_positive)
