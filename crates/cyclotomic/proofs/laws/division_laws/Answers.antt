use Rattle.cyclotomic.proofs.Names.{remainder, length-remainder}
use Rattle.cyclotomic.proofs.LongDivision.{long_division}
use Rattle.cyclotomic.proofs.laws.division_laws.Goals as goal

pub returns-clause-parts : goal.returns-clause-parts
unfolding remainder
returns-clause-parts c = long_division

pub returns-clause-below : goal.returns-clause-below
returns-clause-below c = length-remainder
