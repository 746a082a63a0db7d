-- Names of the standard library, of the crates below and of the definitions of this crate, for its proofs.
unfoldable pub use Rattle.cochain.specs.Cochain.{cocycle_fault}
pub use Rattle.cochain.specs.Cochain.{Cochain, IsCocycle, IsRoots, cochain_of, exponents_by}
pub use Rattle.cocycle_make.proofs.Made.{Factors, made}
pub use Rattle.cocycle_make.specs.Cocycles.{divisor_of_three, roots_of, step_of, trivial_cocycle, type_one_cocycle, type_one_value, type_three_cocycle, type_three_value, type_two_cocycle, type_two_value}
pub use Rattle.group_make.proofs.Extensions.{cyclic_below, second_of}
pub use Rattle.group_make.proofs.FormulaGroups.{dicyclic_below, dihedral_below, product_below, semidirect_below}
pub use Rattle.group_make.proofs.Tables.{table_group}
pub use Rattle.group_make.specs.Formulas.{cyclic_group, dicyclic_group, dihedral_group, dihedral_product, pair, product_group}
pub use Rattle.group_table.specs.Group.{IsGroup, IsSmall, Table, identity_of}
pub use Rattle.named_cocycles.specs.Makers.{dihedral_cocycle, made_cocycle, maker_fault, reflections_cocycle, reflections_value}
unfoldable pub use Rattle.named_cocycles.specs.Samples.{number_at}
pub use Rattle.named_cocycles.specs.Samples.{gauge_number, gauge_numbers, has_identity, next_number, sample_base, sample_cocycle}
pub use Rattle.named_cocycles.specs.declared.maker.Maker.TheVariants.{Cyclic, Dicyclic, Dihedral, Product, Semidirect, TypeThree, TypeTwo}
pub use Rattle.scan.proofs.Places.{and_true, first_none, or_none}
pub use Rattle.scan.proofs.Searches.{no_fault, passes, where_asked}
pub use Rattle.std.proofs.Common.{Bool, Err, List, None, Ok, Result, Some, [], add-one, ap, arith, cond, false, length, length-append, lit<, lit≤, map, nat_eq, nat_le, refl, rules, subst, suc, sym, true, ℕ, ◌%◌, ◌&&◌, ◌*◌, ◌++◌, ◌+◌, ◌/◌, ◌<◌, ◌^◌, ◌||◌, ◌∙◌, ◌∷◌, ◌≡◌, ◌≤◌}
pub use Rattle.std.proofs.Math.Nat.{add-mul, mod-lt, mul-add, one-mul, zero-mod}
pub use Rattle.std.proofs.lemmas.Bool.{eq-eqb, leb-true}
pub use Rattle.std.proofs.lemmas.List.FromFn.{get_or-map-range_with_len, map-range_with_len_more}
pub use Rattle.std.specs.List.{range_with_len}
