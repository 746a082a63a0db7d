use Rattle.central_ext.proofs.InstanceChecks.{bits_is_twist}
use Rattle.worked_rows.proofs.extensions.bits.Goals as goal

pub twist_of-requires : goal.twist_of-requires
twist_of-requires g c = record { twist = bits_is_twist }
