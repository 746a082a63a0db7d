-- Names of the standard library, of the crates below and of the definitions of this crate, for its proofs.
pub use Rattle.algebra.proofs.SumLaws.{mul_pick, mul_sum, multiple_suc, multiple_zero, pick_mul, pick_of, pick_off, pick_same, power_suc, power_zero, sum_add, sum_ext, sum_pick, sum_suc, sum_zero}
pub use Rattle.algebra.specs.Below.{Below, below_equal}
pub use Rattle.algebra.specs.Roots.{RootOfUnity}
pub use Rattle.algebra.specs.Structures.{CommRing}
unfoldable pub use Rattle.algebra.specs.Sums.{multiple, pick, power, sum_below}
pub use Rattle.centre_algebra.specs.CentralCharacters.{IsBefore, IsCentralCharacter, IsCharacterList, linear_value, regular_sum}
pub use Rattle.centre_powers.proofs.FixedPowers.{residues_central_powers, restricted, twist_crossed, twist_ring}
pub use Rattle.group_table.specs.Group.{identity_of, product}
pub use Rattle.power_theory.specs.Traces.{HasCharacteristic}
pub use Rattle.splitting_theory.specs.Lists.{Each, Pairwise}
pub use Rattle.std.proofs.Common.{List, [], ap, arith, eqb-true, false, get_or, inl, inr, length, length-append, refl, subst, suc, sym, true, zero, ℕ, ◌%◌, ◌*◌, ◌++◌, ◌+◌, ◌/◌, ◌<◌, ◌∙◌, ◌∷◌, ◌≡◌, ◌≢◌, ◌≤◌, ◌⊎◌}
pub use Rattle.std.proofs.Math.Dec.{eqb}
pub use Rattle.std.proofs.lemmas.Bool.{cases_eq, cases_lt, eq-eqb, ne_eqb}
pub use Rattle.twisted.specs.Algebra.{IsCentral, class_sum, combination, twisted_product, unit_vector}
unfoldable pub use Rattle.twisted.specs.Regular.{rank, regular_representatives}
pub use Rattle.twisted.specs.Twist.{IsTwist, TwistedSubgroup, size}
pub use mathlib.Core.Path.{ap₂, fun_ext}
