use Rattle.qd_engine.proofs.Names.{◌≡◌, ◌*◌, Some, sym, ap, ap₂, subst, ◌∙◌, unwrap_or, Table, least_conductor, root_order, product, identity_of, conductor_of}
use Rattle.orders.specs.Order.{exponent_of}
use Rattle.qd_engine.proofs.ConductorLaws.{least_is_conductor}
use Rattle.qd_engine.proofs.row_tests.needed_conductor.Goals as goal

pub returns-in-Ok-clause-needed : goal.returns-in-Ok-clause-needed
unfolding conductor_of
returns-in-Ok-clause-needed c =
    let exponent = c.exponent-exponent.ensures.exponent ∙ ap (λ (t : Table). exponent_of t.order (product t) (identity_of t)) c.group.ensures.group in
    let least = subst (λ n. least_conductor n ≡ Some c.in-Ok.k) (ap₂ (λ m n. m * n) c.roots.ensures.roots exponent) c.in-Ok.ensures.least in
    let (conductor, multiple) = least_is_conductor (root_order c.args.w.now) c.in-Ok.k least in
    record { conductor = conductor; multiple = multiple; needed = sym (ap (λ found. unwrap_or found 0) least) }
