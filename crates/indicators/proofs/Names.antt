-- Names of the standard library, of the crates below and of the definitions of this crate, for its proofs.
pub use Rattle.cyclotomic.specs.CyclotomicRing.{CyclotomicValue, cyclotomic_value, root}
pub use Rattle.indicators.specs.Indicators.{indicator_term, quotient_exponent, term_at}
pub use Rattle.qd_ring.specs.Formed.{Formed, Forms, given, multiplied, turned, whole}
pub use Rattle.qd_ring.specs.Totals.{IsTotal}
pub use Rattle.std.proofs.Common.{List, None, Option, Some, [], ap, arith, length, pos, refl, subst, sym, true, ℕ, ◌%◌, ◌&&◌, ◌*◌, ◌+◌, ◌-◌, ◌/◌, ◌^◌, ◌∙◌, ◌∷◌, ◌≡◌}
pub use Rattle.std.specs.Prelude.{slice_index}
pub use mathlib.Core.Path.{ap₂}
