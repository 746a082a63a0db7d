-- The names of libraries and of this crate's definitions that the proofs cite.
pub use Rattle.std.proofs.Common.{◌≡◌, ◌<◌, ◌≤◌, ◌+◌, ◌-◌, ◌*◌, ◌%◌, ◌&&◌, ◌==◌, ℕ, zero, suc, Bool, true, false, Option, Some, None, Err, List, [], ◌∷◌, ◌++◌, length, map, get_or, slice_index, refl, ap, sym, subst, ◌∙◌, rules, arith, zero-add, nat_le, if◌then◌else◌, lit<, lit≤}
pub use Rattle.std.specs.Prelude.{is_some, IfSome, ℤ, pos, nat_lt, Decides}
pub use Rattle.std.specs.List.{range_with_len, list_all}
pub use Rattle.std.specs.Global.{Vec}
pub use Rattle.std.proofs.lemmas.Bool.{false≢true, leb-true, le-leb, ltb-true, ne_eqb, eqb-true, eq-eqb}
pub use Rattle.std.proofs.lemmas.List.{map-append, length-map}
pub use Rattle.std.proofs.Math.ListN.{get_or-map}
pub use mathlib.Core.Path.{ap₂}
pub use Rattle.scan.specs.First.{first, option_or}
pub use Rattle.scan.proofs.Places.{first_none, first_none-at, first_some, first_found, first-zero, first-suc, or_none, and_true, and_false, all_below-at, all_below-all}
pub use Rattle.scan.proofs.Searches.{both, passes, let_in, let_through, some_of, first_finds, is_some_of}
pub use Rattle.group_table.specs.Group.{identity_of}
pub use Rattle.classes.specs.Conjugacy.{conjugate as conjugate_by}
pub use Rattle.cyclotomic.specs.Conductors.{is_conductor}
pub use Rattle.cyclotomic.specs.Cyclotomic.{cyclotomic}
pub use Rattle.cyclotomic.specs.Fit.{value_fits}
pub use Rattle.cyclotomic.specs.Ring.{Value, value_one, value_product}
pub use Rattle.cyclotomic.specs.CyclotomicRing.{CyclotomicValue, cyclotomic_ring, cyclotomic_value, conjugate, root}
pub use Rattle.cyclotomic.proofs.Inverses.{root_modulo}
pub use Rattle.qd_ring.specs.declared.cyc.Cyc.{Cyc}
pub use Rattle.qd_ring.specs.Totals.{IsTotal}
pub use Rattle.qd_ring.specs.Folding.{folded_value, IsFolded, IsSparseOf}
pub use Rattle.twisted.specs.Twist.{TwistedSubgroup, IsTwist, size, element, phase}
pub use Rattle.twisted.specs.Regular.{rank, kappa}
pub use Rattle.twisted.specs.Algebra.{left_quotient, exponent}
pub use Rattle.table_check.specs.Formed.{Formed, Forms, given, whole, conjugated, multiplied, turned, where_so}
pub use Rattle.table_check.specs.Characters.{Characters, RowsOver, IsShaped, characters_of}
pub use Rattle.table_check.specs.Sides.{right_quotient, conjugate_value, unitary_left, unitary_right, twist_left, twist_right, central_left, central_right, product_term, product_sum, product_left, product_right, sum_term, sum_left, sum_right, row_term, column_term, column_left, column_right}
pub use Rattle.table_check.specs.Good.{IsDegree, IsVacuum, IsGood}
pub use Rattle.table_check.specs.Check.{is_same, where_holds, unless_holds, agree, degree_of, twist_of, twists_fit, is_vacuum, has_vacuum, count_miss, degree_at, degree_miss, unitary_at, unitary_miss, twist_at, twist_miss, central_at, central_miss, product_at, product_miss, sum_at, sum_miss, column_at, column_miss, vacuum_miss, row_miss, algebra_miss, table_miss}
pub use Rattle.table_check.specs.Answers.{clause_of, left_of, right_of, site_of, fit_at, equation_miss, Finds, Checks}
pub use Rattle.table_check.specs.Conjugates.{values_of, conjugate_row, conjugate_rows}
pub use Rattle.table_check.specs.declared.miss.Clause.{Clause}
pub use Rattle.table_check.specs.declared.miss.Clause.TheVariants.{Count, Degree, Unitary, Twist, Central, Product, Sum, Column, Vacuum}
pub use Rattle.table_check.specs.declared.miss.Miss.{Miss}
