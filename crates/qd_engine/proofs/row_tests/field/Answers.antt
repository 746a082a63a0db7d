use Rattle.qd_engine.proofs.Names.{◌<◌, subst, ◌∙◌, ap, sym, Table, conductor_of}
use Rattle.qd_engine.proofs.LiftedRows.{modulus_passes, field_is, over_bound}
use Rattle.qd_engine.proofs.row_tests.field.Goals as goal

pub returns-in-Ok-clause-tested : goal.returns-in-Ok-clause-tested
returns-in-Ok-clause-tested c =
    let order = c.order.ensures.order ∙ ap (λ (t : Table). t.order) c.group.ensures.group in (
      modulus_passes c.args.q c.args.w.now c.order.result c.args.k order c.requires.needed c.in-Ok.ensures.valid,
      field_is c.args.q (conductor_of c.args.w.now) c.in-Ok.ring c.in-Ok.ensures.modulus (c.in-Ok.ensures.conductor ∙ c.requires.needed),
    )

pub returns-in-Ok-clause-over : goal.returns-in-Ok-clause-over
returns-in-Ok-clause-over c =
    let order = c.order.ensures.order ∙ ap (λ (t : Table). t.order) c.group.ensures.group in
    subst (λ q. c.args.w.now.group.order < q) (sym c.in-Ok.ensures.modulus)
    (subst (λ n. n < c.args.q) order (over_bound c.args.q c.args.k c.order.result c.in-Ok.ensures.valid))
