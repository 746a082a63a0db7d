use Rattle.group_table.proofs.Numbers.{passing_below-exactly, passing_below-ascending}
use Rattle.group_table.proofs.number_laws.Goals as goal

pub returns : goal.returns
returns c = record { exactly = passing_below-exactly; ascends = λ n i j test. passing_below-ascending n test i j }
