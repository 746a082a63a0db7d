-- Names of the standard library, of the crates below and of the definitions of this crate, for its proofs.
pub use Rattle.algebra.proofs.SumLaws.{mul_pick, one_power, pick_cong, pick_same, power_mul}
pub use Rattle.algebra.specs.Roots.{RootOfUnity, Roots}
pub use Rattle.algebra.specs.Structures.{CommRing}
unfoldable pub use Rattle.algebra.specs.Sums.{multiple, pick, power, sum_below}
unfoldable pub use Rattle.orders.specs.Order.{exponent_of}
pub use Rattle.power_theory.specs.CrossedProducts.{CrossedProduct}
pub use Rattle.std.proofs.Common.{Bool, Some, ap, arith, refl, suc, sym, true, zero, ℕ, ◌%◌, ◌*◌, ◌+◌, ◌-◌, ◌/◌, ◌<◌, ◌∙◌, ◌≡◌, ◌≢◌}
pub use mathlib.Core.Path.{ap₂, fun_ext}
