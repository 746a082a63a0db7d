use Rattle.algebra.proofs.SumLaws.{sum_pick}
use Rattle.algebra.proofs.sums_with_one_term.Goals as goal

pub returns : goal.returns
returns c = λ R. sum_pick R
