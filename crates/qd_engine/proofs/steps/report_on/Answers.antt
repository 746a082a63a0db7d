use Rattle.qd_engine.proofs.Following.{document_after}
use Rattle.qd_engine.proofs.steps.report_on.Goals as goal

pub returns : goal.returns
returns c = record {
  follows = document_after c.args.command.now c.args.document.now c.in_ok-w.w c.report.result c.in_ok-group.ensures.tested.0 c.in_ok-w.ensures.tested.0 c.in_ok-w.ensures.tested.1
      c.report.ensures.follows;
}
