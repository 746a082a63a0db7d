-- Names of the standard library, of the crates below and of the definitions of this crate, for its proofs.
pub use Rattle.centre_powers.specs.CentralPowers.{Serves}
pub use Rattle.prime_field.specs.declared.mod_ring.ModRing.{ModRing}
pub use Rattle.std.proofs.Common.{List, [], ap, arith, get_or, length, refl, subst, suc, sym, zero, ℕ, ◌%◌, ◌*◌, ◌+◌, ◌/◌, ◌<◌, ◌∙◌, ◌≡◌, ◌≤◌}
pub use Rattle.std.proofs.Math.Nat.{div-add-mod, mul-mod_right, mul_assoc}
pub use Rattle.twist_lift.specs.Laws.{ServesClasses, TwistRowsAreRoots, TwistRowsMissClauses, root_order, twist_table}
pub use Rattle.twisted.specs.Twist.{IsTwist, TwistedSubgroup, element, size}
