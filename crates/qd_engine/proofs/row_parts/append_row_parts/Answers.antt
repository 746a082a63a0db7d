use Rattle.qd_engine.proofs.Names.{◌++◌, get_or, sym, ap, ◌∙◌, append-nil, err_from_is_err_and, source_of, row_part_text}
use Rattle.std.proofs.lemmas.Option.{slice_get-get_or}
use Rattle.qd_engine.specs.declared.command.RowPart.TheVariants.{Blank}
use Rattle.qd_engine.proofs.Parts.{no_parts, parts_more}
use Rattle.qd_engine.proofs.Following.{part_stops}
use Rattle.qd_engine.proofs.row_parts.append_row_parts.Goals as goal

pub loop-part-init : goal.loop-part-init
loop-part-init g c = sym (ap (λ text. c.args.out.now.items ++ text) (no_parts (row_part_text (source_of c.args.rows.now) g.row.K c.args.simples.now)) ∙ append-nil c.args.out.now.items)

pub loop-part-preserved : goal.loop-part-preserved
loop-part-preserved g c =
    parts_more (row_part_text (source_of c.args.rows.now) g.row.K c.args.simples.now) c.args.parts.now c.loop-part.part-index Blank c.args.out.now.items c.loop-part.out.items c.append_row_part.new.out.items c.loop-part-test.true
    c.loop-part.invariant c.in_ok-append_row_part.ensures.added

pub returns-in_err-append_row_part-clause-refused : goal.returns-in_err-append_row_part-clause-refused
returns-in_err-append_row_part-clause-refused g c =
    let parts = c.args.parts.now in
    let i = c.loop-part.part-index in
    let p = err_from_is_err_and c.from_residual.result c.from_residual.ensures.1 in
    rw (p.1, p.2)
    (part_stops g.row.K c.args.simples.now parts i (get_or parts i Blank) c.in_err-append_row_part.field-0.0 (slice_get-get_or parts i Blank c.loop-part-test.true)
    c.in_err-append_row_part.ensures.refused)
