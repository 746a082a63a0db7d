use Rattle.orders.proofs.Powers.{right_inverse_left, inverse_unique, cancel_left, cancel_right}
use Rattle.orders.proofs.inverse_laws.Goals as goal

pub returns : goal.returns
returns c = record {
  on_left = right_inverse_left;
  unique = inverse_unique;
  cancel_left = cancel_left;
  cancel_right = cancel_right;
}
