-- Names of the standard library, of the crates below and of the definitions of this crate, for its proofs.
pub use Rattle.algebra.proofs.SumLaws.{mul_multiple, multiple_mul, multiple_nought, multiple_one, sum_ext}
pub use Rattle.algebra.specs.Sums.{multiple}
pub use Rattle.classes.specs.Conjugacy.{class_of, representatives}
pub use Rattle.cyclotomic.specs.Conductors.{is_conductor}
pub use Rattle.cyclotomic.specs.Cyclotomic.{cyclotomic}
pub use Rattle.cyclotomic.specs.CyclotomicRing.{CyclotomicValue, conjugate, cyclotomic_ring, cyclotomic_value, root}
unfoldable pub use Rattle.cyclotomic.specs.Fit.{product_fits, value_fits}
pub use Rattle.cyclotomic.specs.Fit.{greatest_magnitude, value_size}
unfoldable pub use Rattle.cyclotomic.specs.Ring.{value_nought}
pub use Rattle.cyclotomic.specs.Ring.{value_product}
pub use Rattle.group_table.specs.Group.{IsGroup, Table, inverse, product}
pub use Rattle.modular_st.specs.Conjugates.{AllAt, AreKept, AreKeptRows, IsKeptRow, IsSmall, conjugate_at, exchanged, meets, met_pairs}
pub use Rattle.modular_st.specs.Dots.{dot_product, product_at}
pub use Rattle.modular_st.specs.ModularMatrices.{HoldsDimensions, IsSymmetric, IsUnitary}
pub use Rattle.modular_st.specs.Numerators.{IsOverflow, s_site, s_term}
pub use Rattle.modular_st.specs.SMatrices.{row_values, s_front, s_rows, values_of_rows}
pub use Rattle.modular_st.specs.declared.conjugates.KeptConjugates.{KeptConjugates}
pub use Rattle.pair_orbits.proofs.FormedSums.{formed_by_orbits, size_weighted}
pub use Rattle.pair_orbits.specs.FormedSums.{AllFit, added, weighted}
pub use Rattle.pair_orbits.specs.Listing.{AreCommuting, Carries, no_pair, pair_at}
pub use Rattle.pair_orbits.specs.PairOrbits.{listed_pairs}
pub use Rattle.pair_orbits.specs.declared.pair.Pair.{Pair}
pub use Rattle.qd_ring.proofs.NoughtLaws.{IsNought, as_so, conjugate_of_nought, unless_so}
pub use Rattle.qd_ring.specs.Folding.{IsFolded, IsTurnedProduct, folded_value}
pub use Rattle.qd_ring.specs.Formed.{Forms, conjugated, given, whole}
pub use Rattle.qd_ring.specs.RowLists.{row_at, with_value}
pub use Rattle.qd_ring.specs.SparseValues.{total_of_terms, value_of_terms}
pub use Rattle.qd_ring.specs.Totals.{IsTotal}
pub use Rattle.qd_ring.specs.declared.monomial.Monomial.{Monomial}
pub use Rattle.std.proofs.Common.{Bool, IfSome, List, None, Option, Some, [], ap, ap₂, arith, cond, false, get_or, inl, inr, length, length-append, map, refl, set, subst, sym, take, true, zero-add, ℕ, ℤ, ◌%◌, ◌&&◌, ◌*◌, ◌++◌, ◌+◌, ◌-◌, ◌/◌, ◌<◌, ◌==◌, ◌^◌, ◌∙◌, ◌∷◌, ◌≡◌, ◌≤◌}
pub use Rattle.std.proofs.Math.Nat.{mod-eq_of_lt, mul-le-mul, mul-le-mul_right}
pub use Rattle.std.proofs.lemmas.Bool.{and_cases, cases_eq, eq-eqb, eqb-true, le-leb, lt-ltb}
pub use Rattle.std.proofs.lemmas.List.{append-nil, get_or-map, get_or_append_left, get_or_default, get_or_push, length-map, map-append, map-set, set_at, take_all}
pub use Rattle.std.proofs.lemmas.List.FromFn.{get_or-map-range_with_len, length-map-range_with_len, map-range_with_len_more}
pub use Rattle.std.proofs.lemmas.Nat.{div-mul-add, mod-mul-add, row_fits}
pub use Rattle.std.specs.Global.{Vec}
pub use Rattle.std.specs.List.{filter, range_with_len}
pub use Rattle.transport.specs.FullCharacters.{carried_value, full_character, root_exponent}
pub use Rattle.transport.specs.SSums.{pair_term, s_sum}
pub use Rattle.transport.specs.Simples.{AreSimples, SimplesOver, class_at, count}
