use Rattle.table_check.proofs.Names.{◌∙◌, ap, characters_of, row_term}
use Rattle.std.proofs.Math.Nat.{mod-eq_of_lt}
use Rattle.cyclotomic.proofs.Checks.{conductor_positive}
use Rattle.table_check.proofs.Folds.{row_folds}
use Rattle.table_check.proofs.sides.column_left.Goals as goal

pub loop-i-preserved : goal.loop-i-preserved
loop-i-preserved g c =
    let k = g.row.K in
    let s = c.args.table.now.over in
    let table = characters_of k c.args.table.now.rows in
    c.add_product.ensures.listed c.if-not-add_product.false (row_term s table c.args.x c.args.y) c.loop-i.i c.loop-i.invariant
    (row_folds k s table c.loop-i.i c.args.x c.args.y c.new.result.exponent c.kept.result.now.terms c.of-value.result
    (c.new.ensures ∙ mod-eq_of_lt (conductor_positive k c.candidate-candidate.ensures.shaped.conductor)) c.kept.ensures.terms
    (c.of-value.ensures ∙ c.value.ensures.value ∙ ap (λ t. (characters_of k t.rows).chi c.loop-i.i c.args.y) c.candidate-candidate.ensures.candidate))
