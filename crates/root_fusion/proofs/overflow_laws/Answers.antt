use Rattle.root_fusion.proofs.NoOverflows.{numerators_never_overflow, fusion_never_overflows, planes_are_numbers}
use Rattle.root_fusion.proofs.overflow_laws.Goals as goal

pub returns-clause-numerators : goal.returns-clause-numerators
returns-clause-numerators c = numerators_never_overflow

pub returns-clause-fusion_numbers : goal.returns-clause-fusion_numbers
returns-clause-fusion_numbers c = fusion_never_overflows

pub returns-clause-planes : goal.returns-clause-planes
returns-clause-planes c = planes_are_numbers
