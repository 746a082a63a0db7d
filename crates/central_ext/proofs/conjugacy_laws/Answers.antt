use Rattle.central_ext.proofs.PairLaws.{conjugate_by, carrier_of}
use Rattle.central_ext.proofs.conjugacy_laws.Goals as goal

pub returns-clause-exactly : goal.returns-clause-exactly
returns-clause-exactly c = λ s twist a b. (carrier_of s twist a b, λ c. conjugate_by s twist a b c.0 c.1 c.2)
