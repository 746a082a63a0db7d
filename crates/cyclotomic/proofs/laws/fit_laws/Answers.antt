use Rattle.cyclotomic.proofs.Bounds.{sizes_overflow-order}
use Rattle.cyclotomic.proofs.laws.fit_laws.Goals as goal

pub returns-clause-order : goal.returns-clause-order
returns-clause-order c = λ k. sizes_overflow-order
