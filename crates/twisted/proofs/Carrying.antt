-- The conjugate c x c^-1, as `classes` has it.
unfoldable pub use Rattle.classes.proofs.Carrying.{carry}
pub use Rattle.classes.proofs.Carrying.{carry_is, carry_op, carry_one, carry_move, carry_back, carry_of_commuting, commuting_of_carry, carry_left}
