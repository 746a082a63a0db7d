-- A coefficient that is 0 adds nothing.
use Rattle.qd_ring.proofs.Names.{◌+◌, ap, sym, ◌∙◌, nat_abs, to_z-of_z, w128, to_z, of_z, value_sum, value_multiple, root, value_of_terms, total_of_terms}
use Rattle.qd_ring.proofs.SparseLaws.{total-push, value-push, value_unchanged}
use Rattle.qd_ring.proofs.terms.push_term.Goals as goal

pub returns-then-coefficient-ne0-clause-total : goal.returns-then-coefficient-ne0-clause-total
returns-then-coefficient-ne0-clause-total c =
    let read = to_z-of_z w128 c.args.coefficient c.ranges.coefficient in
    ap total_of_terms c.push.ensures.items
    ∙ total-push c.args.terms.now.items (record { power = c.args.power; coefficient = to_z w128 (of_z w128 c.args.coefficient) })
    ∙ ap (λ z. total_of_terms c.args.terms.now.items + nat_abs z) read

pub returns-then-coefficient-ne0-clause-value : goal.returns-then-coefficient-ne0-clause-value
returns-then-coefficient-ne0-clause-value c = λ k.
    let read = to_z-of_z w128 c.args.coefficient c.ranges.coefficient in
    ap (value_of_terms k) c.push.ensures.items
    ∙ value-push k c.args.terms.now.items (record { power = c.args.power; coefficient = to_z w128 (of_z w128 c.args.coefficient) })
    ∙ ap (λ z. value_sum (value_of_terms k c.args.terms.now.items) (value_multiple z (root k c.args.power))) read

pub returns-else-coefficient-ne0-clause-value : goal.returns-else-coefficient-ne0-clause-value
returns-else-coefficient-ne0-clause-value c = λ k.
    value_unchanged k c.args.coefficient c.args.power (value_of_terms k c.args.terms.now.items)
    (sym (to_z-of_z w128 c.args.coefficient c.ranges.coefficient) ∙ ap (to_z w128) c.if-coefficient-ne0.false)
