-- Names of the standard library, of the crates below and of the definitions of this crate, for its proofs.
pub use Rattle.algebra.proofs.SumLaws.{mul_multiple, multiple_is_mul, multiple_nought, pick_of, pick_off, sum_ext, sum_first, sum_list_cons, sum_list_nil, sum_suc, sum_zero}
unfoldable pub use Rattle.algebra.specs.Sums.{multiple, pick, sum_below, sum_list}
pub use Rattle.classes.specs.Conjugacy.{class_of, representatives}
pub use Rattle.cyclotomic.proofs.Inverses.{root_modulo}
pub use Rattle.cyclotomic.specs.Conductors.{is_conductor}
pub use Rattle.cyclotomic.specs.Cyclotomic.{cyclotomic}
pub use Rattle.cyclotomic.specs.CyclotomicRing.{CyclotomicValue, conjugate, conjugate as conjugate_value, cyclotomic_ring, cyclotomic_value, root}
unfoldable pub use Rattle.cyclotomic.specs.Fit.{product_fits, size_of, value_fits}
pub use Rattle.cyclotomic.specs.Ring.{value_nought, value_product, value_sum}
pub use Rattle.fusion.specs.Fronts.{HasCount, IsFront, triple}
pub use Rattle.fusion.specs.Kept.{Answers, AreAt, AreFullValues, AreWeighted, IsClassRow, IsFullRow, IsWeighted, full_term, inner_part, inner_term, listed_at, members_at, orbit_term, places_before, places_of, tensor_part, value_or_nought, weighted_conjugate}
pub use Rattle.fusion.specs.Numbers.{HoldsSmallNumbers, SumsBeforeAreWhole, fusion_number, natural_of, pair_fault, quotient_at, quotient_of, simple_fault, sum_fault, whole_fault, whole_quotient}
pub use Rattle.fusion.specs.declared.weighted.Weighted.{Weighted}
pub use Rattle.fusion_web.specs.Entries.{Entry, WebEntries, count_of, most_nodes}
pub use Rattle.group_table.proofs.Numbers.{IsPassing, passing_below-all, passing_below-fails, passing_below-passes, passing_below-zero}
pub use Rattle.group_table.specs.Group.{IsGroup, Table, commute, product}
pub use Rattle.pair_orbits.specs.PairOrbits.{listed_pairs}
pub use Rattle.pair_orbits.specs.declared.pair.Pair.{Pair}
pub use Rattle.qd_ring.proofs.BufferLaws.{read_128}
pub use Rattle.qd_ring.proofs.ListedSums.{sum_below_more}
pub use Rattle.qd_ring.specs.Folding.{folded_value, turned_product}
pub use Rattle.qd_ring.specs.Formed.{Formed, Forms, multiplied, turned, where_so}
pub use Rattle.qd_ring.specs.SparseValues.{value_of_terms}
pub use Rattle.qd_ring.specs.Totals.{IsTotal}
pub use Rattle.qd_ring.specs.declared.monomial.Monomial.{Monomial}
pub use Rattle.scan.proofs.Places.{and_true, first-zero, first_found, first_none-at, first_none-step}
pub use Rattle.scan.specs.First.{first}
pub use Rattle.slant.specs.Phases.{gamma}
pub use Rattle.std.proofs.Common.{Bool, List, None, Option, Some, [], add-one, ap, ap₂, arith, drop, eq-eqb, eqb-true, false, get_or, length, length-append, map, nat_lt, refl, subst, suc, sym, take, true, zero, zero-add, ℕ, ◌%◌, ◌&&◌, ◌*◌, ◌++◌, ◌+◌, ◌/◌, ◌<◌, ◌==◌, ◌∙◌, ◌∷◌, ◌≡◌, ◌≤◌}
pub use Rattle.std.proofs.Math.Nat.{div-add-mod, mod-eq_of_lt, mul-div_cancel, mul-le-mul, mul-mod_right, mul_comm}
pub use Rattle.std.proofs.lemmas.Nat.{div-mul-add, mod-mul-add, row_fits}
pub use Rattle.std.specs.Global.{Box, Vec}
pub use Rattle.std.specs.List.{list_all, range_with_len}
pub use Rattle.std.specs.Option.{IfSome, is_some, unwrap_or}
pub use Rattle.std.specs.Prelude.{if◌then◌else◌, nat_abs, negsuc, pos, ℤ}
pub use Rattle.table_check.specs.Formed.{whole}
pub use Rattle.transport.proofs.CharacterLaws.{character_is, where_picked}
pub use Rattle.transport.proofs.DoubleSimples.{degree, divides, setting, simples, whole_multiple}
pub use Rattle.transport.proofs.Doubles.{conjugate_value_is, double_classes, order_positive}
pub use Rattle.transport.proofs.FusionLaws.{numbers_are_rule, numbers_of_dimensions}
pub use Rattle.transport.proofs.TensorProducts.{quotient_commutes, tensor_is}
pub use Rattle.transport.specs.FullCharacters.{full_character, root_exponent}
pub use Rattle.transport.specs.Fusion.{IsFusionNumber, fusion_sum, left_quotient, tensor_character, tensor_term}
pub use Rattle.transport.specs.Headline.{IsFusionRule, OfAllSimples}
pub use Rattle.transport.specs.Simples.{AreSimples, SimplesOver, class_at, count, dimension_at}
pub use mathlib.Core.Logic.{inl, inr, ◌⊎◌}
pub use mir.Syntax.{w128}
pub use mir.Val.{of_z, to_z}
