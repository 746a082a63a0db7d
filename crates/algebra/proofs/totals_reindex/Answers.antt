use Rattle.algebra.proofs.TotalLaws.{total_reindex}
use Rattle.algebra.proofs.totals_reindex.Goals as goal

pub returns : goal.returns
returns c = λ R n F. total_reindex R F F
