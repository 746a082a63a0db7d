-- Names of the standard library, of the crates below and of the definitions of this crate, for its proofs.
pub use Rattle.algebra.proofs.CongruenceLaws.{same_add, same_add_left, same_add_multiple, same_add_right, same_mod, same_mul_left, same_mul_right, same_multiple, same_of, same_refl, same_sym, same_trans}
pub use Rattle.algebra.specs.Congruences.{Same}
pub use Rattle.cochain.proofs.Lawful.{lawful}
unfoldable pub use Rattle.cochain.specs.Cochain.{cocycle_fault}
pub use Rattle.cochain.specs.Cochain.{Cochain, IsCocycle, cochain_of, exponents_by, value}
pub use Rattle.cochain.specs.Laws.{IsLawful}
pub use Rattle.cocycle_make.specs.Cocycles.{carry, divisor_of_three, inflated, roots_of, step_of, trivial_cocycle, type_one_cocycle, type_one_value, type_three_cocycle, type_three_value, type_two_cocycle, type_two_value}
unfoldable pub use Rattle.cocycle_make.specs.Divisors.{greatest}
pub use Rattle.cocycle_make.specs.Divisors.{common_divisor, divides_both}
pub use Rattle.cocycle_make.specs.Refusal.{is_multiplicative, map_fault}
pub use Rattle.group_make.specs.Formulas.{cyclic_group, cyclic_product, product_group, table_by, triple_product}
pub use Rattle.group_table.specs.Group.{IsGroup, IsSmall, Table, identity_of, product}
pub use Rattle.orders.specs.Group.{IsGroupBelow}
pub use Rattle.scan.proofs.Places.{and_true, first_none-at}
pub use Rattle.std.proofs.Common.{Bool, List, None, Some, add-one, ap, arith, cond, false, nat_eq, nat_le, refl, rules, suc, sym, true, zero, ℕ, ◌%◌, ◌&&◌, ◌*◌, ◌+◌, ◌-◌, ◌/◌, ◌<◌, ◌∙◌, ◌≡◌, ◌≤◌}
pub use Rattle.std.proofs.Math.Nat.{add-mod-mod, add-mul, add-mul-mod_self_left, div-le_self, eq_of_mul-eq-mul_left, mod-add-mod, mod-eq_of_lt, mod-lt, mod-mod_of_dvd, mod-one, mul-add, mul_assoc, mul_comm, zero-div, zero-mod}
pub use Rattle.std.proofs.lemmas.Bool.{eqb-true, leb-false, leb-true}
pub use Rattle.std.proofs.lemmas.Nat.{div-add-mod', div-mul-add, le-div, mod-mul-add}
pub use Rattle.std.specs.Prelude.{slice_index}
