use Rattle.root_fusion.proofs.FusionSums.{characters_fit, characters_are_root_sums, tensor_products_fit, fusion_sums_fit}
use Rattle.root_fusion.proofs.root_fusion_laws.Goals as goal

pub returns-clause-characters : goal.returns-clause-characters
returns-clause-characters c = characters_fit

pub returns-clause-roots : goal.returns-clause-roots
returns-clause-roots c = characters_are_root_sums

pub returns-clause-tensor_products : goal.returns-clause-tensor_products
returns-clause-tensor_products c = tensor_products_fit

pub returns-clause-fusion_sums : goal.returns-clause-fusion_sums
returns-clause-fusion_sums c = fusion_sums_fit
