use Rattle.root_fusion.proofs.Numbers.{dimensions_are_small, simples_are_few, numbers_are_small}
use Rattle.root_fusion.proofs.IndicatorSums.{small_sums_fit, indicators_fit}
use Rattle.root_fusion.proofs.PairValues.{indicator_values}
use Rattle.root_fusion.proofs.indicator_laws.Goals as goal

pub returns-clause-small : goal.returns-clause-small
returns-clause-small c = small_sums_fit

pub returns-clause-dimensions : goal.returns-clause-dimensions
returns-clause-dimensions c = dimensions_are_small

pub returns-clause-simples : goal.returns-clause-simples
returns-clause-simples c = simples_are_few

pub returns-clause-numbers : goal.returns-clause-numbers
returns-clause-numbers c = numbers_are_small

pub returns-clause-sums : goal.returns-clause-sums
returns-clause-sums c = indicators_fit

pub returns-clause-values : goal.returns-clause-values
returns-clause-values c = indicator_values
