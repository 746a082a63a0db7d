-- Names of the standard library, of the crates below and of the definitions of this crate, for its proofs.
pub use Rattle.cyclotomic.specs.CyclotomicRing.{CyclotomicValue, cyclotomic_ring, cyclotomic_value}
pub use Rattle.group_table.specs.Group.{identity_of}
unfoldable pub use Rattle.qd_ring.specs.CycArrays.{array_of}
pub use Rattle.root_tables.specs.RootRows.{AreRootRows, HasRootRows, IsRootRow}
pub use Rattle.row_order.specs.Reordering.{GoodInAnyOrder, IsReordering, RootRowsInAnyOrder}
pub use Rattle.row_order.specs.SimpleRows.{OrderIsKept, RootRowsInOrder, RowsOfSimplesReorder, SameSimplesInOrder, SimplesInOrder, in_order, simple_rows, without_row}
pub use Rattle.std.proofs.Common.{Bool, List, [], add-one, ap, ap₂, arith, cond, eq-eqb, eqb-true, false, get_or, if◌then◌else◌, inl, inr, length, map, not, refl, subst, suc, sym, take, true, zero, zero-add, ℕ, ℤ, ◌&&◌, ◌++◌, ◌-◌, ◌<◌, ◌==◌, ◌∙◌, ◌∷◌, ◌≡◌, ◌≤◌, ◌⊎◌}
pub use Rattle.std.proofs.lemmas.Bool.{cases_eq, cases_lt}
pub use Rattle.std.proofs.lemmas.List.{append-nil, get_or-map, get_or_default, get_or_past, length-map, map-append, map_push, take_all}
pub use Rattle.std.proofs.lemmas.List.Elements.{All-filter, All-head, All-tail, filter-append, filter_more, filter_passes}
pub use Rattle.std.proofs.lemmas.List.FromFn.{fill_by_all, get_or-map-range_with_len, get_or-range_with_len, length-map-range_with_len, length-range_with_len}
pub use Rattle.std.proofs.lemmas.List.Sorted.{IsPermutation-append, IsPermutation-cons, IsPermutation-keeps, IsPermutation-map, IsPermutation-refl, IsPermutation-swap, IsPermutation-trans, length_permutation}
pub use Rattle.std.specs.List.{All, filter, range_with_len, swap}
pub use Rattle.std.specs.List.Sorted.{IsPermutation}
pub use Rattle.table_check.specs.Characters.{Characters, IsShaped, RowsOver, characters_of}
pub use Rattle.table_check.specs.Good.{HasTwist, IsDegree, IsGood}
pub use Rattle.transport.proofs.Order.{ascending_ascends, ascending_permutes, less, put_in_order}
pub use Rattle.transport.proofs.Rows.{last_or_less, rows_below-suc, rows_below-zero}
unfoldable pub use Rattle.transport.specs.Simples.{ascending, insert, rows_below, simples_of}
pub use Rattle.transport.specs.Simples.{AreSimples, HasTables, Simple, SimplesOver, count, no_simple, no_table, rows_of, simple_of, table_at}
pub use Rattle.twisted.specs.Twist.{TwistedSubgroup, size}
pub use mathlib.Core.Logic.{⊎_elim}
pub use mathlib.Core.Path.{fun_ext}
