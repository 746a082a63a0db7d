use Rattle.qd_steps.proofs.Names.{sym, subst, arith, HasTables}
use Rattle.qd_steps.proofs.simples.simples_of.Goals as goal

pub of-requires : goal.of-requires
of-requires g c = (omega arith, (omega arith, (c.requires.classes, subst (HasTables c.args.w) (sym c.in_ok-tables.ensures.tables) c.requires.rows)))
