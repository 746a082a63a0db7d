-- Names of the standard library, of the crates below and of the definitions of this crate, for its proofs.
pub use Rattle.algebra.specs.Structures.{CommRing}
unfoldable pub use Rattle.algebra.specs.Sums.{multiple, power, sum_below}
unfoldable pub use Rattle.power_theory.specs.Rings.{ring_power, ring_sum}
pub use Rattle.power_theory.specs.Rings.{Ring}
pub use Rattle.power_theory.specs.Traces.{HasCharacteristic, Trace}
pub use Rattle.std.proofs.Common.{ap, arith, refl, suc, sym, zero, ℕ, ◌+◌, ◌-◌, ◌<◌, ◌∙◌, ◌≡◌}
pub use mathlib.Core.Path.{ap₂, fun_ext}
