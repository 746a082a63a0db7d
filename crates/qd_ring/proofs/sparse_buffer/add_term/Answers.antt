-- The number that is added stands for the multiple of the term.
use Rattle.qd_ring.proofs.Names.{ap, ◌∙◌, arith, rules, w128, SFits, cyclotomic, value_sum, value_multiple, cyclotomic_value, root, conductor_bounds}
use Rattle.qd_ring.proofs.SparseLaws.{read_product, term_turned}
use Rattle.qd_ring.proofs.sparse_buffer.add_term.Goals as goal

pub turned-place-requires-clause-small : goal.turned-place-requires-clause-small
turned-place-requires-clause-small c = (conductor_bounds c.args.k c.requires.conductor).0

pub returns-clause-value : goal.returns-clause-value
returns-clause-value c =
    let k = c.args.k in
    let f = c.args.factor in
    let a = c.args.term.coefficient in
    let now = cyclotomic_value k c.args.buffer.now in
    let fits : SFits w128 a = search rules in
    c.add_at.ensures.value (cyclotomic k)
    ∙ ap (λ z. value_sum now (value_multiple z (root k c.turned-place.result))) (read_product f a c.ranges.factor fits (omega (arith, c.requires.room)))
    ∙ ap (value_sum now) (term_turned k c.requires.conductor f a c.args.start c.args.term.power c.turned-place.result c.turned-place.ensures.place)
