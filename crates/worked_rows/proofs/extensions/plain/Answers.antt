use Rattle.central_ext.proofs.InstanceChecks.{plain_is_twist}
use Rattle.worked_rows.proofs.extensions.plain.Goals as goal

pub twist_of-requires : goal.twist_of-requires
twist_of-requires g c = record { twist = plain_is_twist }
