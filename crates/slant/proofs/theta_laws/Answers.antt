use Rattle.slant.proofs.Names.{sym, conj, element, theta, gamma, slant_phase, coproduct_phase}
use Rattle.phases.proofs.PhaseLaws as laws
use Rattle.slant.proofs.Instances.{three_cocycle, commuting, theta_associative}
use Rattle.slant.proofs.theta_laws.Goals as goal

pub returns : goal.returns
unfolding slant_phase coproduct_phase theta gamma conj
returns c = record {
  associative = theta_associative;
  compatible = λ w W g h x y p q r s. laws.theta_gamma_compatible _ _ _ (three_cocycle w W) (element g p) (element h q) (element x r) (element y s);
  gamma = λ w W b g h p q r commutes_g commutes_h.
      laws.gamma_is_theta _ _ _ (three_cocycle w W) (element b p) (element g q) (element h r) (commuting w W q p commutes_g) (commuting w W r p commutes_h);
  at_itself = λ w W g x p q commutes. (
    laws.theta_at_itself _ _ _ (three_cocycle w W) (element g p) (element x q) (commuting w W q p (sym commutes)),
    laws.theta_by_itself _ _ _ (three_cocycle w W) (element g p) (element x q) (commuting w W q p (sym commutes)),
  );
  product_index = λ w W g x p q commutes. laws.theta_product_index _ _ _ (three_cocycle w W) (element g p) (element x q) (commuting w W q p (sym commutes));
}
