use Rattle.table_check.proofs.Names.{◌∙◌, ◌%◌, ap, exponent, left_quotient, phase, characters_of, product_term}
use Rattle.table_check.proofs.Folds.{product_folds}
use Rattle.table_check.proofs.sides.product_sum.Goals as goal

pub loop-y-preserved : goal.loop-y-preserved
loop-y-preserved g c =
    let k = g.row.K in
    let s = c.args.table.now.over in
    let table = characters_of k c.args.table.now.rows in
    let y = c.loop-y.y in
    let z = c.left_quotient-z.result in
    let over = c.over-twist.ensures.over ∙ ap (λ t. t.over) c.candidate-candidate.ensures.candidate in
    c.add_product.ensures.listed c.if-not-add_product.false (product_term s table c.args.i c.args.j c.args.x) y c.loop-y.invariant
    (product_folds k s table c.candidate-candidate.ensures.shaped.conductor c.args.i c.args.j c.args.x y z c.phase.result c.root-phase.result.exponent
    c.kept.result.now.terms c.kept-in-loop-y.result.now.terms
    (c.left_quotient-z.ensures.quotient ∙ ap (λ t. left_quotient t y c.args.x) over)
    (c.phase.ensures.phase ∙ ap (λ t. phase t y z) over)
    (c.root-phase.ensures.exponent ∙ ap (λ t. exponent k t.over c.phase.result % k) c.candidate-candidate.ensures.candidate)
    c.kept.ensures.terms c.kept-in-loop-y.ensures.terms)
