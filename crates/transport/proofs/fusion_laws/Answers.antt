use Rattle.transport.proofs.FusionLaws.{tensor_products_decompose, fusion_of_dimensions, numbers_of_dimensions, numbers_are_rule}
use Rattle.transport.proofs.fusion_laws.Goals as goal

pub returns : goal.returns
returns c = record {
  decompose = tensor_products_decompose;
  sums_of_dimensions = fusion_of_dimensions;
  dimensions = numbers_of_dimensions;
  rule = numbers_are_rule;
}
