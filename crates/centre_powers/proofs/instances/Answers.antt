use Rattle.centre_powers.proofs.Names.{refl, exponent_of}
use Rattle.scan.specs.First.{first, all_below}
use Rattle.orders.specs.Group.{power}
use Rattle.centre_powers.proofs.instances.Goals as goal

pub returns-clause-four : goal.returns-clause-four
unfolding exponent_of first all_below power
returns-clause-four c = refl

pub returns-clause-permutations : goal.returns-clause-permutations
unfolding exponent_of first all_below power
returns-clause-permutations c = refl
