-- The names of libraries that the proofs cite.
pub use Rattle.algebra.proofs.BelowLaws.{finite_below, group_below, total_below}
pub use Rattle.algebra.proofs.CongruenceLaws.{same_add, same_add_multiple, same_add_right, same_equal, same_lin, same_mod, same_multiple, same_of, same_sym, same_trans}
pub use Rattle.algebra.proofs.ConvolutionLaws.{convolution_assoc, convolution_at}
pub use Rattle.algebra.proofs.GroupLaws.{inv_op_op, op_inv_cancel, op_inv_op, op_op_inv}
pub use Rattle.algebra.proofs.RingLaws.{mul_nought, nought_mul, one_mul, product_rules}
pub use Rattle.algebra.proofs.SumLaws.{mul_pick, mul_sum, pick_cong, pick_mul, pick_of, pick_off, pick_same, power_add, power_zero, sum_constant, sum_ext, sum_mul, sum_nought, sum_pick}
pub use Rattle.classes.proofs.Carrying.{element as element_of, neither_below}
pub use Rattle.algebra.specs.Below.{Below, below_equal}
pub use Rattle.algebra.specs.Congruences.{Same}
pub use Rattle.algebra.specs.Convolution.{IsTwoCocycle, twisted_convolution}
pub use Rattle.algebra.specs.Groups.{Group}
pub use Rattle.algebra.specs.Roots.{RootOfUnity, Roots}
pub use Rattle.algebra.specs.Structures.{CommRing}
pub use Rattle.algebra.specs.Sums.{pick, power, sum_below}
pub use Rattle.algebra.specs.Totals.{Finite, equals}
pub use Rattle.classes.proofs.Conjugacy.{carrier, conjugate_below, conjugate_by, conjugate_refl, conjugate_sym, representative_least, representative_of_conjugate, representative_of_identity, representative_twice, transporter_least}
pub use Rattle.classes.specs.Conjugacy.{conjugate, least_transporter, representative_of}
pub use Rattle.group_table.proofs.Numbers.{IsPassing, begun_contains, begun_differ, passing_below-all, passing_below-fails, passing_below-passes, passing_below-zero}
pub use Rattle.group_table.proofs.Sentences.{identity_below}
pub use Rattle.group_table.specs.Group.{IsGroup, Table, identity_of, product}
pub use Rattle.group_table.specs.Numbers.{passing_below}
pub use Rattle.scan.proofs.Places.{all_below-all, all_below-at, all_below-suc, all_below-zero, and_true, first-suc, first-zero, first_none-at, first_some}
pub use Rattle.scan.proofs.Searches.{asked, kept_out, least_passing, let_through, not_asked, same_test, where_asked}
pub use Rattle.scan.specs.First.{all_below, first, option_or}
pub use Rattle.std.proofs.Common.{All, Bool, List, None, Option, Some, [], add-one, ap, arith, below_more, cond, eqb-true, false, get_or, inl, inr, length, length-append, lit<, lit≤, map, nat_eq, nat_lt, refl, rules, subst, suc, sym, true, zero, ℕ, ◌%◌, ◌&&◌, ◌*◌, ◌+◌, ◌-◌, ◌/◌, ◌<◌, ◌↔◌, ◌∙◌, ◌∷◌, ◌≡◌, ◌≢◌, ◌≤◌, ◌⊎◌}
pub use Rattle.std.proofs.Math.ListN.{get_or-eq_default, set}
pub use Rattle.std.proofs.Math.Nat.{add-mul, div-add-mod, mod-eq_of_lt, mod-lt, mul-add-mod_self_left, mul-lt-mul_of_pos_left, mul-suc, suc-mul, zero-mod, zero-mul}
pub use Rattle.std.proofs.lemmas.Bool.{cases_eq, eq-eqb, le-leb, leb-true, ltb-true, ne_eqb}
pub use Rattle.std.proofs.lemmas.List.{append-nil, get_or-map, get_or-set_other, get_or-set_same, get_or_default, length-map, length-set, map-set}
pub use Rattle.std.proofs.lemmas.List.Elements.{All-cons, All-get_or, All-set, All-weaker, filter-append}
pub use Rattle.std.specs.Option.{option_map_or}
pub use Rattle.std.specs.Prelude.{IfNone, IfSome, filter, is_some}
pub use Rattle.twisted.specs.Algebra.{IsCentral, class_sum, coefficient, combination, exponent, left_quotient, product_term, root, twisted_product, unit_vector}
pub use Rattle.twisted.specs.Regular.{is_regular, kappa, rank, regular_representatives}
pub use Rattle.twisted.specs.Twist.{IsTwist, TwistedSubgroup, element, phase, place_of, size}
