-- Names of the standard library, of the crates below and of the definitions of this crate, for its proofs.
pub use Rattle.algebra.proofs.CongruenceLaws.{same_add, same_add_left, same_add_right, same_equal, same_lin, same_mod, same_mul_left, same_mul_right, same_multiple, same_of, same_refl, same_sym, same_trans}
pub use Rattle.algebra.specs.Congruences.{Same}
pub use Rattle.group_make.specs.Formulas.{cyclic_product, dicyclic_product, dihedral_product, pair, reflected, semidirect_product, table_by, triple_product}
pub use Rattle.group_table.proofs.Lawful.{identity_is_unit, is_group}
pub use Rattle.orders.specs.Group.{IsGroupBelow}
pub use Rattle.std.proofs.Common.{Bool, List, None, Some, ap, arith, cond, false, inl, inr, nat_eq, refl, rules, subst, suc, sym, true, zero, ℕ, ◌%◌, ◌*◌, ◌+◌, ◌-◌, ◌/◌, ◌<◌, ◌^◌, ◌∙◌, ◌≡◌, ◌≤◌, ◌⊎◌}
pub use Rattle.std.proofs.Math.Nat.{add-mod-mod, add-mul, add-mul-div_left, add-mul-mod_self_left, div-eq_of_lt, le-mul_of_pos_right, mod-eq_of_lt, mod-lt, mul-add, mul-le-mul_left, mul-one, mul_assoc, mul_comm, one-mul, pow-suc, pow-zero}
pub use Rattle.std.proofs.lemmas.Nat.{div_below, mul-add-lt, mul-le, mul-mod, mul-mod_first, pow-add}
