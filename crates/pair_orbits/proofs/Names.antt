-- Names of the standard library, of the crates below and of the definitions of this crate, for its proofs.
pub use Rattle.algebra.proofs.SumLaws.{multiple_add, multiple_one, multiple_zero, pick_cong, pick_false, pick_pick, pick_sum, pick_true, sum_exchange, sum_ext, sum_list_cons, sum_list_nil, sum_list_push, sum_list_range, sum_pick, sum_suc, sum_zero}
pub use Rattle.algebra.specs.Structures.{CommRing}
unfoldable pub use Rattle.algebra.specs.Sums.{multiple, pick, pick as pick_in, sum_below, sum_list}
pub use Rattle.classes.proofs.Conjugacy.{conjugate_below, conjugate_by_identity, conjugate_by_product, conjugate_of_product}
pub use Rattle.classes.proofs.Orbits.{IsAction, carrier, met_by, met_refl, met_sym, met_trans, passing_copies, passing_length}
pub use Rattle.classes.specs.Conjugacy.{conjugate}
pub use Rattle.cyclotomic.proofs.Sizes.{magnitude-product, size-zeros}
pub use Rattle.cyclotomic.specs.CyclotomicRing.{CyclotomicValue, cyclotomic_ring}
unfoldable pub use Rattle.cyclotomic.specs.Ring.{value_multiple, value_nought}
pub use Rattle.group_table.proofs.Numbers.{IsPassing, length-passing_below, passing_below-all, passing_below-ascending, passing_below-contains, passing_below-fails, passing_below-passes, passing_below-suc, passing_below-zero}
pub use Rattle.group_table.specs.Group.{IsGroup, Table, identity_of, product}
pub use Rattle.group_table.specs.Numbers.{passing_below}
pub use Rattle.pair_orbits.specs.FormedSums.{AllFit, FormedOverOrbits, added, pairs_sum, weighted}
pub use Rattle.pair_orbits.specs.Laws.{IsInvariant, OfListedPairs, SizesOverOrbits, SumsOverOrbits, sum_over_orbits, sum_over_pairs}
unfoldable pub use Rattle.pair_orbits.specs.PairOrbits.{are_conjugate, commuting_pairs_of, conjugate_pair, conjugates_of, fixing, is_least, least_pairs}
pub use Rattle.pair_orbits.specs.PairOrbits.{first_of, is_commuting, listed_pairs, pair_number, second_of, weighted_pair}
unfoldable pub use Rattle.qd_ring.specs.Fit.{sum_overflows}
pub use Rattle.qd_ring.specs.Formed.{Formed, given, listed, where_so}
pub use Rattle.scan.proofs.Places.{all_below-all, all_below-at, and_true}
pub use Rattle.scan.proofs.Searches.{IsLeastPassing, both, least_passing, least_passing_found, same_test}
pub use Rattle.scan.specs.First.{all_below, first}
pub use Rattle.std.proofs.Common.{Bool, List, None, Some, [], add-zero, ap, ap₂, arith, cond, eq-eqb, eqb, eqb-true, false, get_or, inl, inr, length, length-append, map, max, nat_lt, ne_eqb, not, refl, subst, suc, sym, true, zero, zero-add, ℕ, ◌%◌, ◌&&◌, ◌*◌, ◌++◌, ◌+◌, ◌/◌, ◌<◌, ◌==◌, ◌||◌, ◌∙◌, ◌∷◌, ◌≡◌, ◌≤◌}
pub use Rattle.std.proofs.Math.Nat.{div-add-mod, div-lt_iff_lt-mul, mod-lt, mul-div_cancel, mul-le-mul, mul-le-mul_left, mul-one, mul-zero, mul_comm, zero-mul}
pub use Rattle.std.proofs.lemmas.Bool.{cases_lt, le-ltb, ltb-false, not_from_false}
pub use Rattle.std.proofs.lemmas.List.{get_or-map, get_or_default, length-map, map-append}
pub use Rattle.std.proofs.lemmas.List.FromFn.{fill_by_all, sum_by-map-range_with_len_more}
pub use Rattle.std.proofs.lemmas.List.Sums.{sum_by-append, sum_by-cons}
pub use Rattle.std.proofs.lemmas.Nat.{div-mul-add, mod-mul-add, row_fits}
pub use Rattle.std.specs.List.{filter, range_with_len}
pub use Rattle.std.specs.Prelude.{nat_abs, pos, sum_by, unwrap_or, ℤ}
pub use mathlib.Core.Path.{fun_ext}
