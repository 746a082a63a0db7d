use Rattle.qd_ring.proofs.RootSumLaws.{roots_size, roots_fit_together}
use Rattle.qd_ring.proofs.laws.root_sum_laws.Goals as goal

pub returns-clause-size : goal.returns-clause-size
returns-clause-size c = roots_size

pub returns-clause-product_fits : goal.returns-clause-product_fits
returns-clause-product_fits c = roots_fit_together
