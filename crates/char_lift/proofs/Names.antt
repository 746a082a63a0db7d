-- Names of the standard library, of the crates below and of the definitions of this crate, for its proofs.
pub use Rattle.algebra.proofs.SumLaws.{multiple_suc, multiple_zero, sum_ext, sum_suc, sum_zero}
pub use Rattle.algebra.specs.Sums.{multiple}
pub use Rattle.central_ext.proofs.PairPowers.{power_phase-suc, power_phase-zero}
pub use Rattle.central_ext.specs.Extension.{place_power, power_phase}
unfoldable pub use Rattle.char_lift.specs.Candidate.{inverse_transform, least_degree, with_multiplicities}
pub use Rattle.char_lift.specs.Candidate.{degree_of, degree_sum, degree_term, is_degree, lifted_value, multiplicity, multiplicity_sum, power_value}
unfoldable pub use Rattle.char_lift.specs.Faults.{lift_fault, row_fault}
pub use Rattle.char_lift.specs.Faults.{Refuses, fault_with, lifted_row, lifted_rows, place_fault}
unfoldable pub use Rattle.char_lift.specs.Ratios.{class_factor, regular_number}
pub use Rattle.char_lift.specs.Ratios.{carrying_phase, character_ratio, character_ratios, class_size, inverse_residue, inverse_root, root_residue}
unfoldable pub use Rattle.char_lift.specs.Sums.{sum_of}
pub use Rattle.char_lift.specs.Tables.{ListsPowers}
pub use Rattle.char_lift.specs.declared.refusal.LiftRefusal.{LiftRefusal}
pub use Rattle.char_lift.specs.declared.refusal.LiftRefusal.TheVariants.{Memory, Multiplicity, NoDegree}
pub use Rattle.classes.specs.Conjugacy.{representative_of}
pub use Rattle.cyclotomic.specs.Conductors.{is_conductor}
pub use Rattle.cyclotomic.specs.CyclotomicRing.{CyclotomicValue, cyclotomic_ring, cyclotomic_value, root}
pub use Rattle.cyclotomic.specs.Fit.{value_size}
pub use Rattle.cyclotomic.specs.Ring.{value_sum}
pub use Rattle.dixon_split.specs.CentralLists.{central_value}
pub use Rattle.group_table.proofs.Numbers.{length-tabulated, tabulated-at, tabulated-more, tabulated-same}
pub use Rattle.group_table.specs.Group.{Table, identity_of, inverse, product}
pub use Rattle.group_table.specs.Numbers.{tabulated}
unfoldable pub use Rattle.orders.specs.Group.{power}
pub use Rattle.prime_field.proofs.Inverses.{residues_fit}
unfoldable pub use Rattle.prime_field.specs.Laws.Moduli.{power_modulo}
pub use Rattle.prime_field.specs.Laws.Moduli.{modulus_bound, modulus_over_one, modulus_positive, where_found}
pub use Rattle.prime_field.specs.ResidueLists.{AreBelow}
pub use Rattle.prime_field.specs.declared.mod_ring.ModRing.{ModRing}
pub use Rattle.qd_ring.specs.CycArrays.{array_of}
pub use Rattle.qd_ring.specs.ReductionSigns.{conductor_bounds}
pub use Rattle.qd_ring.specs.RootSums.{IsSumOfRoots}
pub use Rattle.qd_ring.specs.RowLists.{row_at, with_value}
pub use Rattle.scan.proofs.Places.{and_true, first-zero, first_found, first_none-at, first_none-step, first_some}
pub use Rattle.scan.specs.First.{first}
pub use Rattle.std.proofs.Common.{Bool, List, None, Option, Some, [], add-one, ap, arith, eq-eqb, eqb-true, false, get_or, inl, inr, length, length-append, lit<, refl, rules, set, subst, suc, sym, true, zero, ℕ, ◌%◌, ◌*◌, ◌++◌, ◌+◌, ◌-◌, ◌/◌, ◌<◌, ◌∙◌, ◌∷◌, ◌≡◌, ◌≢◌, ◌≤◌}
pub use Rattle.std.proofs.Math.ListN.{get_or-append}
pub use Rattle.std.proofs.Math.Nat.{add-mod-mod, mod-add-mod, mod-eq_of_lt, mod-lt, mod-mod, mul-div-le, mul-le-mul_right, zero-mod}
pub use Rattle.std.proofs.Math.Seq.{get_or-append_seam, set-append_seam}
pub use Rattle.std.proofs.lemmas.Bool.{cases_eq, ne_eqb}
pub use Rattle.std.proofs.lemmas.Nat.{mul-le, mul-mod_first, mul-mod_second}
pub use Rattle.std.proofs.lemmas.Result.{err_from_is_err_and}
pub use Rattle.std.specs.Prelude.{IfErr, IfSome, OnOk, if◌then◌else◌, is_some, nat_le, slice_index, slice_index_or, unwrap_or, ◌&&◌, ◌==◌}
pub use Rattle.twisted.specs.Regular.{rank}
pub use Rattle.twisted.specs.Twist.{TwistedSubgroup, element, phase, size}
pub use borrow.Author.Tests.{le-leb, leb-true}
pub use mathlib.Core.Path.{ap₂}
