use Rattle.prime_field.proofs.Names.{field, value-plus, value-times}
use Rattle.prime_field.proofs.laws.evaluation_laws.Goals as goal

pub returns-clause-sum : goal.returns-clause-sum
returns-clause-sum c = λ q listed. value-plus (field q listed)

pub returns-clause-product : goal.returns-clause-product
returns-clause-product c = λ q listed. value-times (field q listed)
