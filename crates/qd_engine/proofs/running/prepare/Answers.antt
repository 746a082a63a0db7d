use Rattle.qd_engine.proofs.Names.{◌≡◌, ◌≤◌, Some, sym, subst, ◌∙◌, err_from_is_err_and, INPUT_LIMIT, texts, command_of}
use Rattle.qd_engine.proofs.Taken.{reads_input, read_prepares, answer_prepares, answer_takes}
use Rattle.qd_engine.proofs.running.prepare.Goals as goal

pub returns-in_default-clause-prepares : goal.returns-in_default-clause-prepares
returns-in_default-clause-prepares g c = rw (← c.deref.ensures.value) (sym c.in_ok-command.ensures.command ∙ c.in_default.is)

pub returns-in_err-bytes-clause-prepares : goal.returns-in_err-bytes-clause-prepares
returns-in_err-bytes-clause-prepares g c =
    let asks : command_of (texts c.args.words.now.items) ≡ Some c.in-Some.command = rw (← c.deref.ensures.value) (sym c.in_ok-command.ensures.command ∙ c.in-Some.is) in
    let p = err_from_is_err_and c.from_residual-in_err-bytes.result c.from_residual-in_err-bytes.ensures.1 in
    rw (p.1, p.2) (read_prepares (texts c.args.words.now.items) _ _ c.in-Some.command asks c.in_err-bytes.field-0.0 c.in_err-bytes.ensures.reads)

pub returns-clause-prepares : goal.returns-clause-prepares
returns-clause-prepares g c =
    let asks : command_of (texts c.args.words.now.items) ≡ Some c.in-Some.command = rw (← c.deref.ensures.value) (sym c.in_ok-command.ensures.command ∙ c.in-Some.is) in
    answer_prepares (texts c.args.words.now.items) _ _ c.in-Some.command asks c.in_ok-bytes.bytes.items c.answer_to.result c.in_ok-bytes.ensures.reads
    (subst (λ n. n ≤ INPUT_LIMIT) c.in_ok-bytes.bytes.ok.0 c.in_ok-bytes.ensures.limit) c.answer_to.ensures.follows

pub returns-clause-taken : goal.returns-clause-taken
returns-clause-taken g c = answer_takes _ _ c.in-Some.command c.in_ok-bytes.bytes.items c.answer_to.result c.answer_to.ensures.follows c.in_ok-bytes.ensures.taken
