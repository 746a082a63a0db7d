use Rattle.cyclotomic.proofs.Names.{◌*◌, sym, ◌∙◌, sum_ext, power, cyclotomic, cyclotomic_ring, root}
use Rattle.cyclotomic.proofs.Images.{root-sum}
use Rattle.cyclotomic.proofs.Fields.{cyclotomic_period}
use Rattle.cyclotomic.proofs.Inverses.{root_modulo}
use Rattle.cyclotomic.proofs.Bounds.{root_size}
use Rattle.cyclotomic.proofs.Orthogonality.{power-root, x_sum_vanishes, x_order, cancel_multiple}
use Rattle.cyclotomic.proofs.laws.root_laws.Goals as goal

pub returns : goal.returns
returns c = record {
  period = cyclotomic_period;
  product = λ k. root-sum (cyclotomic k);
  modulo = root_modulo;
  order = x_order;
  coefficients = root_size;
  vanishing = λ k entry e apart.
      sum_ext (cyclotomic_ring k) k (λ j. root k (j * e)) (λ j. power (cyclotomic_ring k) (root k 1) (j * e))
      (λ j h. sym (power-root (cyclotomic k) (j * e)))
      ∙ x_sum_vanishes k entry e apart;
  cancelling = λ k. cancel_multiple;
}
