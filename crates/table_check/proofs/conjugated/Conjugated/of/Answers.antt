use Rattle.table_check.proofs.Names.{ap, ◌∙◌, map, arith, subst, size, IsShaped, characters_of, values_of, conjugate_row, conjugate_rows}
use Rattle.table_check.proofs.Conjugates.{mapped_more}
use Rattle.table_check.proofs.conjugated.Conjugated.of.Goals as goal

pub loop-i-init : goal.loop-i-init
loop-i-init g c = ap (map (λ row. values_of g.row.K row.items)) c.new-conjugates.ensures.items

pub loop-i-preserved : goal.loop-i-preserved
loop-i-preserved g c =
    ap (map (λ row. values_of g.row.K row.items)) c.in_ok-push.ensures.items
    ∙ mapped_more (λ row. values_of g.row.K row.items) (conjugate_row (size c.args.candidate.over) (characters_of g.row.K c.args.candidate.rows)) c.loop-i.i
    c.loop-i.conjugates.items c.in_ok-conjugate_row.field-0 c.loop-i.invariant c.in_ok-conjugate_row.ensures.row

pub invariant_of-result : goal.invariant_of-result
invariant_of-result g c = (
  subst (IsShaped g.row.K) c.candidate.view_is c.candidate.invariant,
  c.loop-i.invariant ∙ ap (conjugate_rows (size c.args.candidate.over) (characters_of g.row.K c.args.candidate.rows)) (omega (arith, c.loop-i-test.false, c.loop-i.auto, c.rows-rows.ensures.rows)),
)
