use Rattle.qd_steps.proofs.Names.{ap, subst, Refuses}
use Rattle.qd_steps.specs.declared.refusal.StepRefusal.TheVariants as steps
use Rattle.qd_steps.proofs.TableCauses.{plain_same, identity_missed, twist_missed}
use Rattle.qd_steps.proofs.class_tables.refusal_of.Goals as goal

pub returns-in-Identity-clause-missed : goal.returns-in-Identity-clause-missed
returns-in-Identity-clause-missed g c s table miss same refuses =
    let left = c.in-Identity.left in
    let right = c.in-Identity.right in
    let (fit, is) = subst (λ refusal. Refuses s table refusal miss) c.in-Identity.is refuses in
    ap steps.Refused
    (identity_missed s table miss fit _ _ _ _ _ _ _ _ _ is same
    (plain_same g.row.K left.conductor _ _ _ left.array is.left_side c.to_plain.ensures)
    (plain_same g.row.K right.conductor _ _ _ right.array is.right_side c.to_plain-in-Identity.ensures))

pub returns-in-NoTwist-clause-missed : goal.returns-in-NoTwist-clause-missed
returns-in-NoTwist-clause-missed g c s table miss same refuses =
    let value = c.in-NoTwist.value in
    let (fit, clause, row, is) = subst (λ refusal. Refuses s table refusal miss) c.in-NoTwist.is refuses in
    ap steps.Refused (twist_missed s table miss fit _ _ _ clause same row (plain_same g.row.K value.conductor _ _ _ value.array is c.to_plain-in-NoTwist.ensures))
