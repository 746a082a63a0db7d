-- The names of the standard library, of the crates below and of the definitions that the proofs use.
pub use Rattle.std.proofs.Common.{Bool, List, [], ap, arith, cond, false, inl, inr, length, length-append, refl, subst, suc, sym, true, zero, ℕ, ◌%◌, ◌*◌, ◌++◌, ◌+◌, ◌/◌, ◌<◌, ◌∙◌, ◌∷◌, ◌≡◌, ◌≢◌, ◌≤◌, ◌⊎◌}
pub use Rattle.std.proofs.Math.Dec.{eqb}
pub use Rattle.std.proofs.Math.Nat.{add-mod-mod, add-mul-mod_self_right, add-suc, add-zero, div-add-mod, mod-add-mod, mod-eq_of_lt, mod-lt, mod-mod, mul-suc, mul-zero, suc-add, suc-mul, zero-mul}
pub use Rattle.std.proofs.Math.Numerals.{add-one}
pub use Rattle.std.proofs.lemmas.Bool.{cases_eq, eq-eqb, eqb-true, ne_eqb}
pub use Rattle.std.proofs.lemmas.List.{length-map}
pub use Rattle.std.proofs.lemmas.Nat.{mul-mod_first, mul-mod_second}
pub use Rattle.std.specs.List.{range_with_len}
pub use Rattle.std.specs.Prelude.{map, nat_eq, ◌&&◌}
pub use mathlib.Core.Path.{ap₂, fun_ext}
pub use Rattle.algebra.specs.Below.{Below, IsGroupBelow, below_equal}
pub use Rattle.algebra.specs.Congruences.{Same}
pub use Rattle.algebra.specs.Convolution.{IsTwoCocycle}
unfoldable pub use Rattle.algebra.specs.Convolution.{twisted_convolution}
pub use Rattle.algebra.specs.Fields.{Field}
pub use Rattle.algebra.specs.Groups.{Group}
unfoldable pub use Rattle.algebra.specs.Groups.{conj}
pub use Rattle.algebra.specs.Involutions.{Involution}
unfoldable pub use Rattle.algebra.specs.Matrices.{dot}
pub use Rattle.algebra.specs.Modules.{IsStable, LinearMap, act, act_monic}
unfoldable pub use Rattle.algebra.specs.Modules.{Reaches, horner, iterate}
unfoldable pub use Rattle.algebra.specs.Polynomials.{AllNought, quotient, value}
pub use Rattle.algebra.specs.Roots.{RootOfUnity, Roots}
pub use Rattle.algebra.specs.Structures.{CommRing}
unfoldable pub use Rattle.algebra.specs.Sums.{multiple, pick, power, sum_below, sum_list}
pub use Rattle.algebra.specs.Totals.{Finite}
unfoldable pub use Rattle.algebra.specs.Totals.{equals, total}
