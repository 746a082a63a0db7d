-- The names of the standard library, of the crates below and of the definitions that the proofs use.
pub use Rattle.std.proofs.Common.{Bool, List, [], ap, arith, eqb-true, false, get_or, inl, inr, length, refl, subst, suc, sym, true, zero, ℕ, ◌++◌, ◌+◌, ◌-◌, ◌<◌, ◌∙◌, ◌∷◌, ◌≡◌, ◌≤◌, ◌⊎◌}
pub use Rattle.std.proofs.Math.Dec.{eqb}
pub use Rattle.std.proofs.Math.Nat.{add-suc, add-zero, zero-add}
pub use Rattle.std.proofs.lemmas.Bool.{cases_eq, cases_lt, eq-eqb, ne_eqb}
pub use Rattle.std.specs.Prelude.{flat_map, ◌≢◌}
pub use mathlib.Core.Path.{ap₂}
pub use Rattle.algebra.proofs.RingLaws.{add_cancel, add_fixed, add_mul, add_neg_add, mul_add, mul_left_comm, mul_neg, mul_nought, neg_add_self, neg_mul, neg_neg, neg_nought, neg_unique, nought_add, nought_mul, one_mul, ring_rules, sum_rules}
pub use Rattle.algebra.proofs.SumLaws.{mul_multiple, mul_pick, mul_sum, multiple_add, multiple_is_mul, multiple_map, multiple_mul, multiple_nought, multiple_one, multiple_suc, multiple_zero, nought_map, pick_map, pick_mul, pick_of, pick_off, pick_same, power_add, power_one, power_suc, power_zero, sum_add, sum_constant, sum_ext, sum_first, sum_list_append, sum_list_cons, sum_list_nil, sum_list_push, sum_list_single, sum_map, sum_mul, sum_neg, sum_nought, sum_pick, sum_suc, sum_zero}
pub use Rattle.algebra.specs.Fields.{Field}
pub use Rattle.algebra.specs.Structures.{CommRing}
pub use Rattle.algebra.specs.Sums.{multiple, pick, power, sum_below, sum_list}
pub use Rattle.splitting_theory.specs.Algebras.{Among, AreDependent, HasBasis, HasValues, IsCharacter}
unfoldable pub use Rattle.splitting_theory.specs.Algebras.{evaluate}
pub use Rattle.splitting_theory.specs.Lists.{Each, Pairwise}
pub use Rattle.splitting_theory.specs.Splitting.{Acts, IsFixed, IsPiece, IsSplitting, Precedes, ZeroTest, number}
unfoldable pub use Rattle.splitting_theory.specs.Splitting.{horner, part, parts_below, pieces}
