use Rattle.table_check.proofs.InstanceChecks.{one_is_twist}
use Rattle.worked_rows.proofs.tables.one.Goals as goal

pub twist_of-requires : goal.twist_of-requires
twist_of-requires g c = record { twist = one_is_twist }
