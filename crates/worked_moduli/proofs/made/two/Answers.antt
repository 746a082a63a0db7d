use Rattle.central_ext.proofs.InstanceChecks.{two_is_twist}
use Rattle.worked_moduli.proofs.made.two.Goals as goal

pub twist_of-requires : goal.twist_of-requires
twist_of-requires g c = record { twist = two_is_twist }
