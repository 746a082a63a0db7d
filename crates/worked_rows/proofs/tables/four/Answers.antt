use Rattle.twisted.proofs.InstanceChecks.{four_is_twist}
use Rattle.worked_rows.proofs.tables.four.Goals as goal

pub twist_of-requires : goal.twist_of-requires
twist_of-requires g c = record { twist = four_is_twist }
