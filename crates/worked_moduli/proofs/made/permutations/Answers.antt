use Rattle.twisted.proofs.InstanceChecks.{permutations_are_twist}
use Rattle.worked_moduli.proofs.made.permutations.Goals as goal

pub twist_of-requires : goal.twist_of-requires
twist_of-requires g c = record { twist = permutations_are_twist }
