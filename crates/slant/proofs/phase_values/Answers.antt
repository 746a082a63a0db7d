use Rattle.slant.proofs.Names.{conj, conjugate, element, gamma, coproduct_phase}
use Rattle.phases.proofs.PhaseLaws as laws
use Rattle.slant.proofs.Instances.{three_cocycle, theta_normalised, phases_below}
use Rattle.slant.proofs.phase_values.Goals as goal

pub returns : goal.returns
unfolding coproduct_phase gamma conj conjugate
returns c = record {
  below = phases_below;
  theta = theta_normalised;
  gamma = λ w W g h p q. (
    laws.gamma_of_one _ _ _ (three_cocycle w W) (element g p) (element h q),
    laws.gamma_first_one _ _ _ (three_cocycle w W) (element g p) (element h q),
    laws.gamma_second_one _ _ _ (three_cocycle w W) (element g p) (element h q),
  );
}
