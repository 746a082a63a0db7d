use Rattle.qd_engine.proofs.LiftedRows.{lifted_rooted}
use Rattle.qd_engine.proofs.rows.lifted_simples.Goals as goal

pub returns-in-Ok-clause-rooted : goal.returns-in-Ok-clause-rooted
returns-in-Ok-clause-rooted g c =
    lifted_rooted c.args.ring.now c.args.w g.row.K c.in-Ok.lifted c.requires.conductor c.requires.multiple c.requires.over c.in-Ok.ensures.good c.in-Ok.ensures.simples c.in-Ok.ensures.passed
