use Rattle.power_theory.proofs.SumPowers.{trace_power_of_sum}
use Rattle.power_theory.proofs.powers_of_sums.Goals as goal

pub returns : goal.returns
returns c = λ R S t q characteristic positive a b. trace_power_of_sum R S t a b q characteristic positive
