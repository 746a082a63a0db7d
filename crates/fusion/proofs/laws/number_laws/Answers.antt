use Rattle.fusion.proofs.Found.{numbers_are_found, numbers_are_of_sums}
use Rattle.fusion.proofs.laws.number_laws.Goals as goal

pub returns : goal.returns
returns c = record { found = numbers_are_found; sums = numbers_are_of_sums }
