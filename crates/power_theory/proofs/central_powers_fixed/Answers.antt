use Rattle.power_theory.proofs.CentralElements.{central_fixed}
use Rattle.power_theory.proofs.central_powers_fixed.Goals as goal

pub returns : goal.returns
returns c = λ n R F P T K q characteristic over numbers units. central_fixed R F P T K q characteristic over numbers units
