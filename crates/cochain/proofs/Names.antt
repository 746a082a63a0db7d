-- The names of libraries that the proofs cite.
pub use Rattle.algebra.proofs.CongruenceLaws.{same_add, same_lin, same_mod, same_multiple, same_sym, same_trans}
pub use Rattle.algebra.specs.Congruences.{Same}
pub use Rattle.cochain.specs.Cochain.{Cochain, IsCochain, IsCocycle, closure_fault_in, exponents_by, is_closed_at, left_side, right_side, value}
pub use Rattle.cochain.specs.Gauge.{gauge_fault, gauged, gauged_value, is_normal_pair, pair_value}
pub use Rattle.cochain.specs.Laws.{CocycleExactly, IsLawful}
pub use Rattle.cochain.specs.ZeroRows.{MarksZeroRows, has_zero_rows, is_zero_row}
pub use Rattle.cochain.specs.declared.fault.CocycleFault.TheVariants.{NotCocycle, NotNormalised}
pub use Rattle.group_table.proofs.Sentences.{closed, group_below, identity_below}
pub use Rattle.group_table.proofs.Square.{place_below}
pub use Rattle.group_table.specs.Group.{IsGroup, IsSmall, Table, identity_of, product}
pub use Rattle.scan.proofs.Places.{all_below-at, and_true, first_none, first_none-at, or_none}
pub use Rattle.scan.proofs.Searches.{asked, no_fault, passes, same_test, where_asked}
pub use Rattle.std.proofs.Common.{Bool, List, None, [], ap, arith, false, get_or, inl, inr, length, nat_eq, refl, suc, sym, true, zero, ℕ, ◌%◌, ◌*◌, ◌++◌, ◌+◌, ◌-◌, ◌/◌, ◌<◌, ◌||◌, ◌↔◌, ◌∙◌, ◌∷◌, ◌≡◌, ◌≤◌, ◌⊎◌}
pub use Rattle.std.proofs.Math.Bool.{or-true}
pub use Rattle.std.proofs.Math.Nat.{add-mul-mod_self_left, div-lt_iff_lt-mul, mod-eq_of_lt, mod-lt, mod-mod, mul-le-mul_right, mul-mod_right}
pub use Rattle.std.proofs.lemmas.Bool.{eq-eqb, eqb-true}
pub use Rattle.std.proofs.lemmas.List.{get_or-map, get_or_append_left, get_or_push, length-map}
pub use Rattle.std.proofs.lemmas.Nat.{div-mul-add, div_below, mod-mul-add}
