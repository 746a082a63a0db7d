use Rattle.data_print.proofs.Names.{sym, ap, ◌∙◌, arith, slice_index, class_line, first_lines}
use Rattle.std.proofs.lemmas.List.{append-nil}
use Rattle.data_print.proofs.Fronts.{first_lines-more, lines_front, on_err}
use Rattle.data_print.proofs.class_lines.append_class_lines.Goals as goal

pub loop-c-init : goal.loop-c-init
unfolding first_lines
loop-c-init c = sym (append-nil c.args.out.now.items)

pub returns-in_err-text-clause-front : goal.returns-in_err-text-clause-front
returns-in_err-text-clause-front c = on_err c.from_residual.result (lines_front _ _ c.loop-c.c _ _ (omega (arith, c.count-c-end.ensures.count)) c.loop-c.invariant)

pub returns-in_err-extend_from_slice-clause-front :
    goal.returns-in_err-extend_from_slice-clause-front
returns-in_err-extend_from_slice-clause-front c =
    on_err c.from_residual-in_err-extend_from_slice.result
    (lines_front _ _ c.loop-c.c _ _ (omega (arith, c.count-c-end.ensures.count)) (c.in_err-extend_from_slice.ensures.items ∙ c.loop-c.invariant))

pub loop-c-preserved : goal.loop-c-preserved
loop-c-preserved c =
    first_lines-more (λ i. class_line c.args.classes.now i (slice_index c.args.ranks.now i)) c.loop-c.c _ _ _ c.as_bytes.result.now c.loop-c.invariant
    (c.as_bytes.ensures.value ∙ c.in_ok-text.ensures.text ∙ ap (class_line c.args.classes.now c.loop-c.c) c.at.ensures.number) c.in_ok-extend_from_slice.ensures.items
