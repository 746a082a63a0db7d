use Rattle.cocycle_make.proofs.Names.{◌≡◌, rules, ap, ◌∙◌, common_divisor, roots_of, step_of, divisor_of_three, type_three_value}
use Rattle.cocycle_make.proofs.Lawful.{type_three_lawful}
use Rattle.cocycle_make.proofs.Made.{made, made_factors}
use Rattle.cocycle_make.proofs.makers.type_three.Goals as goal

pub from_lawful-requires-clause-lawful : goal.from_lawful-requires-clause-lawful
from_lawful-requires-clause-lawful c =
    let a = c.args.a in
    let b = c.args.b in
    let d = c.args.c in
    let p = c.args.p in
    let step = c.step_of-step.result in
    let (accepted, built) = c.in_ok-group.ensures.made in
    let factors = made_factors a b d _ built c.order-order.ensures.small in
    let t : c.common_divisor-t.result ≡ divisor_of_three a b d = c.common_divisor-t.ensures.greatest ∙ ap (λ u. common_divisor u d) c.common_divisor.ensures.greatest in
    made _ _ _ (roots_of (divisor_of_three a b d) p) _ _ (type_three_value b d step) (type_three_value b d (step_of (divisor_of_three a b d) p)) built
    (c.roots_of.ensures.roots ∙ ap (λ u. roots_of u p) t) c.order-order.ensures.order
    (ap (λ s. type_three_value b d s) (c.step_of-step.ensures.step ∙ ap (λ u. step_of u p) t)) (c.in_ok-exponents.ensures.exponents (type_three_value b d step) (search rules))
    (type_three_lawful a b d p factors.a_positive factors.b_positive factors.c_positive)
