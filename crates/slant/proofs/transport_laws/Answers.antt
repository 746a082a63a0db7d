use Rattle.slant.proofs.Names.{sym, conj, conjugate, element, theta, gamma, transport_phase, kappa, slant_phase, coproduct_phase, carrying_phase, conjugation_phase}
use Rattle.phases.proofs.PhaseLaws as laws
use Rattle.slant.proofs.Instances.{three_cocycle, commuting}
use Rattle.slant.proofs.transport_laws.Goals as goal

pub returns : goal.returns
unfolding slant_phase coproduct_phase carrying_phase conjugation_phase theta gamma transport_phase kappa conj conjugate
returns c = record {
  inverse = λ w W g x k p q r commutes. laws.transport_phases_inverse _ _ _ (three_cocycle w W) (element g p) (element x q) (element k r) (commuting w W q p (sym commutes));
  of_itself = λ w W g k p q. laws.transport_phase_of_itself _ _ _ (three_cocycle w W) (element g p) (element k q);
  composes = λ w W g x k c p q r s commutes.
      laws.transport_phase_composes _ _ _ (three_cocycle w W) (element g p) (element x q) (element k r) (element c s) (commuting w W q p (sym commutes));
  back = λ w W g x k p q r commutes. laws.transport_phase_back _ _ _ (three_cocycle w W) (element g p) (element x q) (element k r) (commuting w W q p (sym commutes));
  algebra_map = λ w W g x y k p q r s commutes_x commutes_y.
      laws.transport_is_algebra_map _ _ _ (three_cocycle w W) (element g p) (element x q) (element y r) (element k s)
      (commuting w W q p (sym commutes_x)) (commuting w W r p (sym commutes_y));
  gamma = λ w W x g h k p q r s commutes_g commutes_h.
      laws.gamma_transport _ _ _ (three_cocycle w W) (element x p) (element g q) (element h r) (element k s) (commuting w W q p commutes_g) (commuting w W r p commutes_h);
}
