-- Names of the standard library, of the crates below and of the definitions of this crate, for its proofs.
pub use Rattle.algebra.proofs.BelowLaws.{finite_below, total_below}
pub use Rattle.algebra.proofs.SumLaws.{mul_pick, mul_sum, multiple_add, multiple_is_mul, multiple_map, multiple_multiple, multiple_suc, multiple_zero, pick_cong, pick_of, pick_off, sum_exchange, sum_ext, sum_mul, sum_pick, sum_split, sum_suc, sum_zero}
pub use Rattle.algebra.proofs.TotalLaws.{equals_of, equals_true, total_ext, total_pick}
pub use Rattle.algebra.specs.Below.{Below, below_equal}
unfoldable pub use Rattle.algebra.specs.Groups.{conj}
pub use Rattle.algebra.specs.Groups.{Group}
pub use Rattle.algebra.specs.Structures.{CommRing}
pub use Rattle.algebra.specs.Sums.{IsTorsionFree, multiple, pick, sum_below}
unfoldable pub use Rattle.algebra.specs.Totals.{equals}
pub use Rattle.algebra.specs.Totals.{Finite, total}
pub use Rattle.characters.proofs.CharacterLaws.{covariance, full_character_at, in_class_of, in_class_true, transporter_independent}
pub use Rattle.characters.proofs.ClassLaws.{carried_back, classes_by_conjugates}
pub use Rattle.characters.proofs.FusionLaws.{decomposition, fusion_dimensions, fusion_sum_is, tensor_character_is}
pub use Rattle.characters.proofs.OrthogonalityLaws.{first_orthogonality, group_order_multiple}
pub use Rattle.characters.proofs.PairLaws.{inner_product_is, pair_sum_is as commuting_sum_is}
pub use Rattle.characters.proofs.SLaws.{dimension_is, dimension_of_class, pair_term_invariant, pair_term_is, s_sum_is, s_sum_of_vacuum, s_sum_symmetric, vacuum_class}
pub use Rattle.characters.proofs.SettingLaws.{commute_of, commute_true, commuting_conj, commuting_inv, commuting_product, same_test}
unfoldable pub use Rattle.characters.specs.FullCharacters.{full_character as character, in_class}
unfoldable pub use Rattle.characters.specs.Pairs.{inner_product as abstract_inner, pair_sum as commuting_sum}
pub use Rattle.characters.specs.Parts.{IsPart, IsSubgroup}
unfoldable pub use Rattle.characters.specs.PhaseRoots.{conjugation_root, coproduct_root, slant_root, transport_root}
unfoldable pub use Rattle.characters.specs.SMatrix.{pair_term as abstract_term, pair_term as term, s_sum as abstract_sum}
pub use Rattle.characters.specs.SMatrix.{dimension}
unfoldable pub use Rattle.characters.specs.Setting.{commute as commuting_test}
pub use Rattle.characters.specs.Setting.{Classes, Commuting, Setting}
pub use Rattle.characters.specs.Simples.{IsVacuum, Simples}
pub use Rattle.classes.proofs.Conjugacy.{IsMember, IsRepresentative, class_below, class_of_representative, class_represents, member_below, member_itself, members_are, members_exactly, representative_at_is, representative_below, representative_of_conjugate, representative_same, transporter_is}
pub use Rattle.classes.proofs.Counting.{classes_at_most}
pub use Rattle.classes.specs.Conjugacy.{centraliser_of, class_of, representative_at, representative_of, representatives, transporter_of}
pub use Rattle.cochain.specs.Cochain.{Cochain, IsCocycle}
pub use Rattle.cyclotomic.proofs.Inverses.{root_conjugate, root_modulo}
pub use Rattle.cyclotomic.specs.Conductors.{is_conductor}
pub use Rattle.cyclotomic.specs.Cyclotomic.{cyclotomic}
pub use Rattle.cyclotomic.specs.CyclotomicRing.{CyclotomicValue, conjugate, conjugate as conjugate_value, cyclotomic_ring, cyclotomic_value, root}
pub use Rattle.cyclotomic.specs.Laws.Values.{multiple_one as scale_one, multiple_sum as scale_sum, multiple_zero as scale_zero, same_value, value_of-scaled}
pub use Rattle.cyclotomic.specs.Ring.{value_nought, value_one, value_product}
pub use Rattle.group_table.proofs.Sentences.{identity_below}
pub use Rattle.group_table.specs.Group.{Commute, IsGroup, Table, commute, identity_of, product}
unfoldable pub use Rattle.phases.specs.Phases.{gamma as coproduct_phase, kappa as conjugation_phase, theta as slant_phase, transport_phase as carrying_phase}
pub use Rattle.qd_ring.proofs.CycSums.{array-of_value, arrays_same}
pub use Rattle.qd_ring.specs.declared.cyc.Cyc.{Cyc}
pub use Rattle.scan.proofs.Places.{all_below-all, all_below-at, and_true, first_some}
pub use Rattle.scan.proofs.Searches.{first_finds}
pub use Rattle.slant.proofs.Instances.{exponent, group, theta_is, three_cocycle}
pub use Rattle.slant.proofs.TwistLaws.{centraliser_is_twist, elements_commute, identities_agree, kappas_agree, phases_agree, products_agree}
unfoldable pub use Rattle.slant.specs.Phases.{gamma, kappa, theta, transport_phase}
pub use Rattle.slant.specs.Phases.{carried}
unfoldable pub use Rattle.slant.specs.Twists.{twist_of as twisted_centraliser}
pub use Rattle.std.proofs.Common.{Bool, List, None, Option, Some, [], add-one, ap, append_assoc, ap₂, arith, cond, eq-eqb, eqb-true, false, get_or, le_trans, length, length-append, map, nat_eq, nat_le, not, pred, refl, rules, subst, suc, sym, take, true, vec_len, zero, zero-add, ℕ, ◌%◌, ◌&&◌, ◌*◌, ◌++◌, ◌+◌, ◌-◌, ◌/◌, ◌<◌, ◌==◌, ◌∙◌, ◌∷◌, ◌≡◌, ◌≤◌}
pub use Rattle.std.proofs.Math.Nat.{add-mul, div-add-mod, le_refl, mul-add-mod_self_left, mul-div_cancel, mul-le-mul, mul-one, mul_assoc, mul_comm, zero-mul}
pub use Rattle.std.proofs.lemmas.Bool.{and_right, cases_eq, cases_lt, le-leb, leb-true, ne_eqb}
pub use Rattle.std.proofs.lemmas.Grind.{get_or_default_zero}
pub use Rattle.std.proofs.lemmas.List.{get_or-map, get_or-take, get_or_default, length-map, length-take, map-append}
pub use Rattle.std.proofs.lemmas.List.Elements.{All-append, All-get_or, All-nil, Contains-append_left, Contains-append_right, Contains-get_or}
pub use Rattle.std.proofs.lemmas.List.FromFn.{get_or-map-range_with_len, length-map-range_with_len, map-range_with_len_more, sum_by-map-range_with_len_more}
pub use Rattle.std.proofs.lemmas.List.Sorted.{All-permutation, Contains-permutation, IsPermutation-cons, IsPermutation-map, IsPermutation-refl, IsPermutation-swap, IsPermutation-trans, ranks_by, sorted_far, sum_by-IsPermutation}
pub use Rattle.std.proofs.lemmas.List.Sums.{count_by-le-length, get_or-le-sum_by, sum_by-append, sum_by-cons, sum_by_more_le}
pub use Rattle.std.specs.Cmp.{IsStrictWeakOrder, IsTotalOrder, bool_cmp_total, int_cmp_total, nat_cmp_total, on_total, then_total, tied_itself}
pub use Rattle.std.specs.Cmp.Lexicographic.{lists_total, slice_cmp}
pub use Rattle.std.specs.List.{All, Contains, range_with_len, sum_by}
pub use Rattle.std.specs.List.Sorted.{IsPermutation, IsSorted, IsSortedBy}
pub use Rattle.std.specs.Ordering.{bool_cmp, int_cmp, is_lt, nat_cmp, ordering_reverse, ordering_then}
pub use Rattle.std.specs.Prelude.{IfSome, if◌then◌else◌, is_some, pos, unwrap_or, ℤ, ⊤, ◌+ℤ◌}
pub use Rattle.std.specs.declared.cmp.Ordering.{Ordering}
pub use Rattle.table_check.proofs.Same.{is_same-Decides}
pub use Rattle.table_check.proofs.WholeValues.{conjugation, whole_apart}
pub use Rattle.table_check.specs.Characters.{Characters, IsShaped, RowsOver, characters_of}
pub use Rattle.table_check.specs.Check.{degree_of, is_same, is_vacuum, twist_of, where_holds}
pub use Rattle.table_check.specs.Formed.{Formed, Forms, conjugated, given, multiplied, turned, where_so, whole}
pub use Rattle.table_check.specs.Good.{HasTwist, IsDegree, IsGood}
pub use Rattle.table_check.specs.Sides.{central_left, central_right, column_term, conjugate_value as conjugate_value_at, degree_value, product_sum, product_term, row_term, sum_term, twist_left, twist_right, with_phase}
pub use Rattle.transport.specs.FullCharacters.{carried_value, element_value, full_character, root_exponent}
pub use Rattle.transport.specs.Fusion.{AreFusionNumbers, fusion_sum, inner_product, left_quotient, pair_sum, tensor_character, tensor_term}
pub use Rattle.transport.specs.Headline.{AdjointUnitary, CharactersOrthogonal, FusionDimensions, HasModularData, IsByEachTransporter, NumbersAreRule, NumbersOfDimensions, OfAllSimples, SFourthRelation, SSymmetric, STCubeRelation, STSRelation, SUnitary, SquaresOfDimensions, StepsAreInverse, TensorProductsDecompose, TwistsAct, TwistsUnitary, VacuumEntry, VacuumRow}
pub use Rattle.transport.specs.Kept.{AreGood, coefficients_of, simple_in}
pub use Rattle.transport.specs.Laws.{Covariant, IsElement, TermsInvariant, TransporterIndependent}
unfoldable pub use Rattle.transport.specs.Matrices.{product_numbers, sum_numbers}
pub use Rattle.transport.specs.Matrices.{Matrix, adjoint, at_equal, by_s, by_twists, dimensions_product, product_of, s_entry, twist_root}
pub use Rattle.transport.specs.SSums.{pair_term}
unfoldable pub use Rattle.transport.specs.Simples.{ascending, insert, rows_below, simples_of}
pub use Rattle.transport.specs.Simples.{AreSimples, HasTables, IsVacuumAt, Simple, SimplesOver, characters_at, class_at, compare, count, degree_at, dimension_at, no_simple, over_at, rows_of, simple_at, simple_of, table_at, twist_at, value_at}
pub use Rattle.transport.specs.declared.entry.Entry.{Entry}
pub use Rattle.twisted.proofs.Places.{place_absent, place_there}
pub use Rattle.twisted.proofs.Translation.{place_group, places, some_place}
pub use Rattle.twisted.specs.Algebra.{exponent as phase_exponent}
unfoldable pub use Rattle.twisted.specs.Regular.{is_regular, kappa as kappa_at_places, rank}
pub use Rattle.twisted.specs.Twist.{IsTwist, TwistedSubgroup, element, phase, place_of, size}
pub use mathlib.Core.Logic.{inl, inr, ⊎_elim, ◌⊎◌}
