use Rattle.qd_engine.proofs.Names.{◌≡◌, ℕ, Vec, err_from_is_err_and, Cochain, made_cocycle, maker_fault, document_in, maker_test, Late, Reports}
use Rattle.qd_engine.proofs.Following.{input_refused, made_test, made_follows}
use Rattle.qd_engine.proofs.steps.answer_to_maker.Goals as goal

pub returns-in_err-w : goal.returns-in_err-w
returns-in_err-w c =
    let command = c.args.command.now in
    let maker = c.args.maker in
    let p = err_from_is_err_and c.from_residual.result c.from_residual.ensures.1 in
    record {
      follows = λ bytes.
          rw (p.1, p.2)
          (input_refused command bytes {X = Cochain} {Y = Vec ℕ} (λ (w : Cochain). w ≡ made_cocycle maker) (Late command (document_in command bytes))
          (λ (text : Vec ℕ). Reports text.items command bytes) (maker_test (maker_fault maker)) c.in_err-w.field-0.0 (made_test command bytes maker c.requires.made) c.in_err-w.ensures.tested);
    }

pub returns : goal.returns
returns c = record {
  follows = λ bytes.
      made_follows c.args.command.now bytes c.args.maker c.requires.made c.in_ok-w.w c.report.result c.in_ok-w.ensures.accepted c.in_ok-w.ensures.tested.1 c.report.ensures.follows;
}
