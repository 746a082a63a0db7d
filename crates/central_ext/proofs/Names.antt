-- The names of the standard library, of the crates below and of the definitions that the proofs use.
pub use Rattle.std.proofs.Common.{Bool, List, None, Some, [], add-one, add-suc, add-zero, ap, arith, cond, eq-eqb, eq-or-lt_of_le, eqb-true, false, get_or, inl, inr, length, length-append, lit<, lit≤, min, nat_eq, refl, subst, suc, sym, true, zero, ℕ, ◌%◌, ◌*◌, ◌++◌, ◌+◌, ◌-◌, ◌/◌, ◌<◌, ◌↔◌, ◌∙◌, ◌∷◌, ◌≡◌, ◌≢◌, ◌≤◌}
pub use Rattle.std.proofs.Math.Nat.{div-lt_iff_lt-mul, mod-eq_of_lt, mod-lt}
pub use Rattle.std.proofs.lemmas.Bool.{cases_lt, cases_order, ne_eqb}
pub use Rattle.std.proofs.lemmas.List.{get_or_append_left, get_or_push}
pub use Rattle.std.proofs.lemmas.Nat.{div-add-mod', div-mul-add, mod-mul-add, mul-add-lt}
pub use Rattle.std.specs.Prelude.{is_some}
pub use borrow.Author.Count.{below_more}
pub use Rattle.algebra.proofs.CongruenceLaws.{same_add, same_add_left, same_equal, same_lin, same_mod, same_multiple, same_of, same_sym, same_trans}
pub use Rattle.algebra.proofs.GroupLaws.{op_cancel_right, op_inv_cancel, op_op_inv}
pub use Rattle.algebra.proofs.RingLaws.{one_mul}
pub use Rattle.algebra.proofs.SumLaws.{mul_pick, pick_cong, pick_same}
pub use Rattle.algebra.specs.Below.{Below, below_equal}
pub use Rattle.algebra.specs.Congruences.{Same}
pub use Rattle.algebra.specs.Convolution.{IsTwoCocycle}
pub use Rattle.algebra.specs.Groups.{Group}
pub use Rattle.algebra.specs.Roots.{RootOfUnity}
pub use Rattle.algebra.specs.Structures.{CommRing}
pub use Rattle.algebra.specs.Sums.{pick}
unfoldable pub use Rattle.algebra.specs.Totals.{equals}
pub use Rattle.classes.specs.Conjugacy.{conjugate}
pub use Rattle.group_table.proofs.Numbers.{passing_below-fails, passing_below-passes, passing_below-suc, passing_below-zero}
pub use Rattle.group_table.proofs.Sentences.{group_below}
pub use Rattle.group_table.specs.Group.{identity_of, product}
unfoldable pub use Rattle.group_table.specs.Group.{group_fault}
unfoldable pub use Rattle.group_table.specs.Numbers.{passing_below}
pub use Rattle.orders.proofs.Powers.{power_below}
unfoldable pub use Rattle.orders.specs.Group.{power}
pub use Rattle.scan.proofs.Places.{and_true}
pub use Rattle.scan.proofs.Searches.{IsLeastPassing, first_finds, is_some_of, least_passing, least_passing_found, same_test, some_of}
unfoldable pub use Rattle.scan.specs.First.{all_below, first}
pub use Rattle.twisted.proofs.AlgebraLaws.{on_places, product_on_places, twist_roots}
pub use Rattle.twisted.proofs.Carrying.{carry_back, carry_is, carry_move, carry_one, carry_op}
unfoldable pub use Rattle.twisted.proofs.Carrying.{carry}
pub use Rattle.twisted.proofs.CentreLaws.{times_unit}
pub use Rattle.twisted.proofs.ConjugationPhases.{IsConjugationPhase, kappa_of_commuting, regular_of_kappa}
pub use Rattle.twisted.proofs.PhaseLaws.{kappa_below}
pub use Rattle.twisted.proofs.Translation.{carry_value, kappa_at, kappa_phase, phase_at, phases_cocycle, place_group, places, regular_of_test, some_root, test_of_regular}
pub use Rattle.twisted.specs.Algebra.{root, twisted_product, unit_vector}
pub use Rattle.twisted.specs.Regular.{is_regular, kappa}
pub use Rattle.twisted.specs.Twist.{IsTwist, TwistedSubgroup, phase, size}
pub use Rattle.central_ext.specs.Extension.{IsPair, ext_identity, ext_inverse, ext_product, place_power}
unfoldable pub use Rattle.central_ext.specs.Extension.{ext_power}
unfoldable pub use Rattle.central_ext.specs.Extension.{power_phase}
pub use Rattle.central_ext.specs.ExtensionClasses.{carries_to, ext_conjugate, is_first_of_class, is_same_pair, pair_at, pair_count, pair_number}
unfoldable pub use Rattle.central_ext.specs.ExtensionClasses.{are_conjugate, class_number, first_of_class}
pub use Rattle.central_ext.specs.Instances.{BitsExtended, BitsIsTwist, PlainIsTwist, TwoExtended, TwoIsTwist, bits_twist, plain_twist, two_twist}
unfoldable pub use Rattle.central_ext.specs.PowersOfUnits.{algebra_power}
pub use Rattle.central_ext.specs.declared.pair.Pair.{Pair}
