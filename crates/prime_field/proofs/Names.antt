-- The names of the standard library, of the crates below and of the definitions that the proofs use.
pub use Rattle.std.proofs.Common.{Bool, Fits, IfNone, IfSome, List, None, Option, Some, [], add-one, ap, arith, cond, drop, false, get_or, get_or-set_other, inl, inr, length, length-append, length-drop, lit<, of_z, refl, subst, suc, sym, to_z, true, w32, w8, zero, ℕ, ◌%◌, ◌*◌, ◌++◌, ◌+◌, ◌-◌, ◌/◌, ◌<◌, ◌∙◌, ◌∷◌, ◌≡◌, ◌≢◌, ◌≤◌, ◌⊎◌}
pub use Rattle.std.proofs.Math.Nat.{add-mod-mod, add-zero, div-lt_iff_lt-mul, mod-add-mod, mod-eq_of_lt, mod-lt, mod-mod, mul-le-mul_right, mul-zero, zero-add, zero-mod}
pub use Rattle.std.proofs.Math.Seq.{drop-cons, drop-length}
pub use Rattle.std.proofs.lemmas.Bool.{cases_eq, cases_lt, cases_order, eq-eqb, eqb-true, le-ltb, lt-ltb, ltb-true, ne_eqb}
pub use Rattle.std.proofs.lemmas.Bool.Decides.{nat_tests}
pub use Rattle.std.proofs.lemmas.Int.{to_z-of_z}
pub use Rattle.std.proofs.lemmas.List.{get_or-append_right, get_or-drop, get_or-take, get_or_append_left, get_or_push, length-map, length-take}
pub use Rattle.std.proofs.lemmas.List.Elements.{All-get_or}
pub use Rattle.std.proofs.lemmas.Nat.{div-add-mod', div-mul-add, mod-mul-add, mul-add-lt, mul-le, mul-mod_first, mul-mod_second}
pub use Rattle.std.specs.List.{list_all}
pub use Rattle.std.specs.Prelude.{MatchOption, if◌then◌else◌, is_some, map, nat_abs, nat_eq, nat_lt, negsuc, not, pos, slice_index, slice_range, slice_set, unwrap_or, ℤ, ◌&&◌, ◌==◌, ◌||◌}
pub use borrow.Author.Count.{below_more}
pub use borrow.Author.Differences.{lt-false, lt-true}
pub use lib.Signed.{lt_z}
pub use mathlib.Core.Path.{ap₂, fun_ext}
pub use Rattle.algebra.proofs.Annihilators.{killed}
pub use Rattle.algebra.proofs.Columns.{IsNoughtBelow, columns, dot_is, length_units, nought_stable, units, units_reach}
pub use Rattle.algebra.proofs.FieldLaws.{difference_nought, test_product}
pub use Rattle.algebra.proofs.LinearMaps.{horner_cons, horner_move, horner_nil, monic_is, move_none}
pub use Rattle.algebra.proofs.PolynomialLaws.{division, length_quotient, quotient_nought, value_cons, value_constant, value_nil}
pub use Rattle.algebra.proofs.RingLaws.{add_left_comm, mul_left_comm, mul_nought, neg_mul, nought_add, nought_mul, one_mul, product_rules, ring_rules}
pub use Rattle.algebra.proofs.RootLaws.{fixed_is_nought, power_mod}
pub use Rattle.algebra.proofs.SumLaws.{mul_pick, mul_sum, pick_false, pick_of, pick_off, pick_same, pick_true, power_suc, power_zero, sum_add, sum_exchange, sum_ext, sum_first, sum_mul, sum_neg, sum_nought, sum_pick, sum_reindex, sum_split, sum_suc, sum_zero}
pub use Rattle.algebra.specs.Below.{Below, below_equal}
pub use Rattle.algebra.specs.Fields.{Field}
pub use Rattle.algebra.specs.Matrices.{IsAnnihilator, IsCombination, IsMinimal, IsReduced, Solves, dot}
unfoldable pub use Rattle.algebra.specs.Matrices.{matrix_polynomial, matrix_power}
pub use Rattle.algebra.specs.Modules.{act, horner}
pub use Rattle.algebra.specs.Polynomials.{quotient, value}
unfoldable pub use Rattle.algebra.specs.Polynomials.{AllNought}
pub use Rattle.algebra.specs.Roots.{RootOfUnity}
pub use Rattle.algebra.specs.Structures.{CommRing}
pub use Rattle.algebra.specs.Sums.{pick, power, sum_below}
pub use Rattle.cyclotomic.proofs.Checks.{cyclotomic_is, listed}
pub use Rattle.cyclotomic.proofs.Tests.{all_below_means, at_each_conductor}
pub use Rattle.cyclotomic.specs.Conductors.{is_conductor}
unfoldable pub use Rattle.cyclotomic.specs.Conductors.{conductors, reduction_of, reductions}
pub use Rattle.cyclotomic.specs.Fit.{size_of}
pub use Rattle.group_table.proofs.Numbers.{IsPassing, length-passing_below, passing_below-all, passing_below-ascending, passing_below-ext, passing_below-fails, passing_below-passes, passing_below-suc, passing_below-zero}
pub use Rattle.group_table.proofs.Square.{column_below, place_below, row_below}
pub use Rattle.group_table.specs.Numbers.{passing_below}
pub use Rattle.qd_ring.proofs.BufferLaws.{read_8, size_at}
pub use Rattle.qd_ring.specs.ReductionSigns.{reduction_ternary}
pub use Rattle.scan.proofs.Places.{and_true}
pub use Rattle.scan.proofs.Searches.{least_passing}
unfoldable pub use Rattle.scan.specs.First.{all_below, first}
pub use Rattle.prime_field.specs.Evaluation.{is_root, reduced}
unfoldable pub use Rattle.prime_field.specs.Evaluation.{value_at, whole_modulo}
pub use Rattle.prime_field.specs.Field.{field, field_residue}
pub use Rattle.prime_field.specs.Inverses.{inverse_modulo}
pub use Rattle.prime_field.specs.Kernels.{IsKernelBasis}
pub use Rattle.prime_field.specs.Laws.Evaluation.{value-plus, value-times}
pub use Rattle.prime_field.specs.Laws.Field.{least_root_means, nought_value, residue_power, residue_product, value_nought}
pub use Rattle.prime_field.specs.Laws.Moduli.{at_each_modulus, inverse_absent, inverse_means, inverse_mod, inverse_there, inverse_unique, modulus_bound, modulus_over_one, modulus_positive, some_value}
pub use Rattle.prime_field.specs.Laws.Residues.{polynomial_value}
pub use Rattle.prime_field.specs.Moduli.{ServesConductor}
unfoldable pub use Rattle.prime_field.specs.Moduli.{is_modulus, least_root, moduli, modulus_fault}
pub use Rattle.prime_field.specs.Polynomials.{HasCoefficient}
pub use Rattle.prime_field.specs.PowerLists.{ListsPowers}
pub use Rattle.prime_field.specs.ResidueLists.{AreBelow, IsTabulated, column_of, matrix_of}
unfoldable pub use Rattle.prime_field.specs.ResidueLists.{minus_multiple}
pub use Rattle.prime_field.specs.Solved.{IsFree, IsGone, IsLastNonzero, IsSolved, power_equations}
pub use Rattle.prime_field.specs.WholeNumbers.{polynomial_at}
pub use Rattle.prime_field.specs.SquareMatrix.{Square, entry}
