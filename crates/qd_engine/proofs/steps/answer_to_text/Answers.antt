use Rattle.qd_engine.proofs.Names.{◌≡◌, ℕ, None, sym, ap, subst, ◌∙◌, Vec, err_from_is_err_and, stop_of, tokens, document_of, Document, Form, document_in, scan_test, Late, Reports, HasRowsOf}
use Rattle.qd_engine.proofs.Documents.{has_rows}
use Rattle.qd_engine.proofs.Following.{input_refused, read_has, read_document, read_test, document_follows}
use Rattle.qd_engine.proofs.steps.answer_to_text.Goals as goal

pub report_on-requires-clause-stated : goal.report_on-requires-clause-stated
report_on-requires-clause-stated c =
    let (none, (document, is)) = rw (c.form_of.ensures.form) at c.in_ok-document.ensures.tested in
    subst (λ (d : Document). HasRowsOf c.args.command.now.rows d.characters) (sym is) (has_rows c.args.command.now c.args.bytes.now.items)

pub returns-in_err-document : goal.returns-in_err-document
returns-in_err-document c =
    let command = c.args.command.now in
    let bytes = c.args.bytes.now.items in
    let form = c.form_of.result in
    let p = err_from_is_err_and c.from_residual.result c.from_residual.ensures.1 in
    record {
      follows = rw (p.1, p.2)
          (input_refused command bytes {X = Document} {Y = Vec ℕ} (λ (d : Document). (stop_of form bytes ≡ None) × (d ≡ document_of form (tokens bytes)))
          (Late command (document_in command bytes)) (λ (text : Vec ℕ). Reports text.items command bytes) (scan_test (stop_of form bytes)) c.in_err-document.field-0.0
          (read_test command bytes c.requires.read ∙ ap (λ (f : Form). scan_test (stop_of f bytes)) (sym c.form_of.ensures.form)) c.in_err-document.ensures.tested);
    }

pub returns : goal.returns
returns c =
    let command = c.args.command.now in
    let bytes = c.args.bytes.now.items in
    let (none, (document, is)) = rw (c.form_of.ensures.form) at c.in_ok-document.ensures.tested in
    record {
      follows = document_follows command bytes (read_has command bytes c.requires.read document) c.in_ok-document.document c.report_on.result
          (is ∙ read_document command bytes c.requires.read) c.report_on.ensures.follows;
    }
