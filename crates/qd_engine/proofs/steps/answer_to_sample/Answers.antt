use Rattle.qd_engine.proofs.Following.{sample_follows}
use Rattle.qd_engine.proofs.steps.answer_to_sample.Goals as goal

pub returns : goal.returns
returns c = record {
  follows = λ bytes. sample_follows c.args.command.now bytes c.args.number c.requires.sampled c.in_ok-w.w c.report.result c.in_ok-w.ensures.made c.report.ensures.follows;
}
