use Rattle.cocycle_make.proofs.Lawful.{trivial_lawful, type_one_lawful, type_two_lawful, type_three_lawful}
use Rattle.cocycle_make.proofs.Inflated.{inflated_lawful}
use Rattle.cochain.proofs.Lawful.{lawful}
use Rattle.cocycle_make.proofs.cocycle_laws.Goals as goal

pub returns : goal.returns
returns c = record {
  complete = λ t roots at T. lawful t T roots at;
  trivial = trivial_lawful;
  type_one = type_one_lawful;
  type_two = type_two_lawful;
  type_three = type_three_lawful;
  inflated = inflated_lawful;
}
