use Rattle.orders.proofs.Powers.{power_below, power_one, power_add, power_product, power_unit, power_modulo}
use Rattle.orders.proofs.power_laws.Goals as goal

pub returns : goal.returns
returns c = record {
  below = power_below;
  one = power_one;
  of_sum = power_add;
  of_product = power_product;
  of_unit = power_unit;
  of_remainder = power_modulo;
}
