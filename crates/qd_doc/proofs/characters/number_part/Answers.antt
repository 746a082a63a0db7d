use Rattle.qd_doc.proofs.Names.{Natural, Ok, ap, err_from_is_err_and, length, tokens_from, value, ◌>>=◌, ◌∙◌}
use Rattle.qd_doc.specs.declared.part.Part.TheVariants as parts
use Rattle.qd_doc.proofs.Loops.{fails_on, viewed}
use Rattle.qd_doc.proofs.characters.number_part.Goals as goal

pub returns-in_err-numeral-clause-gives : goal.returns-in_err-numeral-clause-gives
returns-in_err-numeral-clause-gives c =
    let bytes = c.args.bytes.now.items in
    let p = err_from_is_err_and c.from_residual.result c.from_residual.ensures.1 in
    rw (p.1, p.2) (fails_on _ _ (viewed parts.Number value (length bytes) Natural (tokens_from c.args.at bytes)) c.in_err-numeral.field-0.0 c.in_err-numeral.ensures.gives)

pub returns-clause-gives : goal.returns-clause-gives
returns-clause-gives c =
    let bytes = c.args.bytes.now.items in
    viewed parts.Number value (length bytes) Natural (tokens_from c.args.at bytes)
    ∙ ap (λ r. r >>= λ x. Ok (parts.Number x.0, x.1)) c.in_ok-numeral.ensures.gives
