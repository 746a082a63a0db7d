use Rattle.group_make.proofs.Bounds.{moved_by_power}
use Rattle.group_make.proofs.formulas.semidirect_product.Goals as goal

pub returns : goal.returns
returns c = record { product = moved_by_power _ _ _ _ _ _ _ c.power_modulo.ensures.power }
