use Rattle.algebra.proofs.SumLaws.{sum_exchange}
use Rattle.algebra.proofs.sums_exchange.Goals as goal

pub returns : goal.returns
returns c = λ R. sum_exchange R
