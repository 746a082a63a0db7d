use Rattle.std.proofs.Common.{arith}
use Rattle.qd_engine.proofs.ConductorLaws.{multiple_of_factor}
use Rattle.qd_engine.proofs.rows.stated_simples.Goals as goal

pub simples_by_rows_over-requires : goal.simples_by_rows_over-requires
simples_by_rows_over-requires g c = (
  omega arith,
  (
    c.requires.conductor,
    (multiple_of_factor g.row.K c.args.w.roots _ c.requires.multiple, (c.requires.list.classes, (c.requires.list.twists, (c.requires.matched, c.requires.values)))),
  ),
)
