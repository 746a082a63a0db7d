use Rattle.slant.proofs.TwistLaws.{centraliser_is_twist, elements_commute, products_agree, identities_agree, inverses_agree, phases_agree, kappas_agree}
use Rattle.slant.proofs.centraliser_laws.Goals as goal

pub returns : goal.returns
returns c = record {
  twist = centraliser_is_twist;
  elements = elements_commute;
  products = products_agree;
  identity = identities_agree;
  inverses = inverses_agree;
  phases = phases_agree;
  kappa = kappas_agree;
}
