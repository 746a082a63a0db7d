use Rattle.qd_engine.proofs.Names.{◌≡◌, ◌++◌, ap, ◌∙◌, given_or_none, part_text, parts_text, rows_text}
use Rattle.qd_engine.proofs.steps.report.Goals as goal

pub returns : goal.returns
returns c =
    let (none, rows) = c.in_ok-append_rows.ensures.follows in
    let command = c.args.command.now in
    let given = given_or_none c.args.characters.now in
    let text = rows ∙ ap (λ front. front ++ rows_text c.args.w given command.rows)
    (c.in_ok-known.ensures.added ∙ ap (λ front. front ++ parts_text (part_text c.args.w) command.parts) c.new-out.ensures.items) in
    record { follows = (none, text) }
