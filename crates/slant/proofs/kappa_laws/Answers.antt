use Rattle.slant.proofs.Names.{conj, conjugate, element, theta, gamma, transport_phase, kappa, slant_phase, coproduct_phase, carrying_phase, conjugation_phase}
use Rattle.phases.proofs.PhaseLaws as laws
use Rattle.slant.proofs.Instances.{three_cocycle, commuting}
use Rattle.slant.proofs.kappa_laws.Goals as goal

pub returns : goal.returns
unfolding slant_phase coproduct_phase carrying_phase conjugation_phase theta gamma transport_phase kappa conj conjugate
returns c = record {
  composes = λ w W a d c x p q r s commutes_d commutes_c commutes_x.
      laws.kappa_composes _ _ _ (three_cocycle w W) (element a p) (element d q) (element c r) (element x s)
      (commuting w W p q commutes_d) (commuting w W p r commutes_c) (commuting w W p s commutes_x);
  transport = λ w W a c x p q r. laws.kappa_is_transport _ _ _ (three_cocycle w W) (element a p) (element c q) (element x r);
}
