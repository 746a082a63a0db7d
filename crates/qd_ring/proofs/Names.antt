-- Names of the standard library, of the crates below and of the definitions of this crate, for its proofs.
pub use Rattle.algebra.proofs.RingLaws.{add_mul, add_nought, mul_add, mul_assoc, mul_nought, nought_mul, one_mul}
pub use Rattle.algebra.proofs.SumLaws.{multiple_suc, multiple_zero, nought_map, sum_ext, sum_list_append, sum_list_cons, sum_list_nil, sum_list_push, sum_list_range, sum_list_single, sum_suc, sum_zero}
pub use Rattle.algebra.specs.Below.{below_equal}
pub use Rattle.algebra.specs.Residues.{residue}
unfoldable pub use Rattle.algebra.specs.Sums.{power}
pub use Rattle.algebra.specs.Sums.{multiple, sum_below, sum_list}
pub use Rattle.cyclotomic.proofs.Bounds.{product_that_fits, root_size, sizes_overflow-one, step_size}
pub use Rattle.cyclotomic.proofs.Checks.{conductor_positive, cyclotomic_is, reduction_length}
pub use Rattle.cyclotomic.proofs.Fields.{cyclotomic_degree}
pub use Rattle.cyclotomic.proofs.Images.{image-one_power, image-sum, product-root, root-sum, root-zero, root_steps}
pub use Rattle.cyclotomic.proofs.Inverses.{conjugation_prime, galois_modulo, galois_root, root_modulo}
unfoldable pub use Rattle.cyclotomic.proofs.Sizes.{total_of}
pub use Rattle.cyclotomic.proofs.Sizes.{magnitude-product, magnitude-sum, size-act, size-cons, size-nil, size-plus, size-product, size-scaled, size-steps, size-zeros, total-size}
unfoldable pub use Rattle.cyclotomic.specs.Conductors.{is_conductor, reduction_of}
pub use Rattle.cyclotomic.specs.Conductors.{phi_of}
pub use Rattle.cyclotomic.specs.Cyclotomic.{cyclotomic}
pub use Rattle.cyclotomic.specs.CyclotomicRing.{CyclotomicValue, conjugate, cyclotomic_ring, cyclotomic_value, galois_image, remainder_ring, root}
unfoldable pub use Rattle.cyclotomic.specs.Division.{cancelled}
pub use Rattle.cyclotomic.specs.Division.{degree, remainder}
unfoldable pub use Rattle.cyclotomic.specs.Fit.{product_fits, size_of, sizes_overflow, value_fits}
pub use Rattle.cyclotomic.specs.Fit.{greatest_magnitude, value_size}
pub use Rattle.cyclotomic.specs.Laws.Action.{LinearMap, act, act-at_power, act-cons, act-nil, act-nought, act-scale, iterate, iterate-power, iterate-suc, iterate-zero, map_nought, map_power}
pub use Rattle.cyclotomic.specs.Laws.Polynomials.{length-plus, length-scaled, length-zeros, lower-last, plus-zeros, scaled-one, scaled-zeros}
pub use Rattle.cyclotomic.specs.Laws.Values.{product-act, product_comm, product_one, product_sum, sum_assoc, sum_comm, sum_nought, times_x, value_of-act, value_of-itself, value_of-nil, value_of-plus}
unfoldable pub use Rattle.cyclotomic.specs.Polynomial.{at_power, coefficient, leading, lower, plus, scaled, x_to}
pub use Rattle.cyclotomic.specs.Polynomial.{zeros}
unfoldable pub use Rattle.cyclotomic.specs.Ring.{value_image, value_multiple, value_nought, value_of, value_sum}
pub use Rattle.cyclotomic.specs.Ring.{Value, value_negative, value_one, value_product, value_root}
pub use Rattle.qd_ring.specs.ArrayLaws.{all_noughts, array_length, array_parts, size-padded, size-value, value-front, value_of-padded, value_of-zeros, zeros_noughts}
unfoldable pub use Rattle.qd_ring.specs.CycArrays.{array_of, is_array, is_small}
pub use Rattle.qd_ring.specs.CycArrays.{is_nought}
pub use Rattle.qd_ring.specs.CyclotomicFit.{cyclotomic_fit}
unfoldable pub use Rattle.qd_ring.specs.Fit.{sum_overflows}
pub use Rattle.qd_ring.specs.Fit.{FitRules, IsTerm}
pub use Rattle.qd_ring.specs.Folding.{IsFolded, IsSparseOf, IsTurnedProduct, folded_value, turned_product}
pub use Rattle.qd_ring.specs.Formed.{Formed, Forms, conjugated, listed, multiplied, turned, where_so}
pub use Rattle.qd_ring.specs.ReductionSigns.{conductor_bounds, reduction_ternary}
pub use Rattle.qd_ring.specs.RowLists.{row_at, with_value}
unfoldable pub use Rattle.qd_ring.specs.SparseValues.{total_of_terms, value_of_terms}
pub use Rattle.qd_ring.specs.SparseValues.{IsSparse}
pub use Rattle.qd_ring.specs.Thirds.{odd_power, thirds, thirds_cycle, three}
pub use Rattle.qd_ring.specs.Totals.{IsTotal}
unfoldable pub use Rattle.qd_ring.specs.ValueReading.{coefficients_of, term_after_sign, term_of}
pub use Rattle.qd_ring.specs.ValueReading.{is_digit, number, number_after, numeral_len, power_of, signed}
unfoldable pub use Rattle.qd_ring.specs.ValueText.{terms_text, value_text}
pub use Rattle.qd_ring.specs.ValueText.{Spells, numeral, or_nought, power_text, sign_text, term_text}
pub use Rattle.qd_ring.specs.declared.cyc.Cyc.{Cyc}
pub use Rattle.qd_ring.specs.declared.monomial.Monomial.{Monomial}
pub use Rattle.qd_ring.specs.declared.value_reader.Term.{Term}
pub use Rattle.scan.proofs.Places.{all_below-all, all_below-at, all_below-fails, all_below-step, all_below-zero}
unfoldable pub use Rattle.scan.specs.First.{all_below}
pub use Rattle.std.proofs.Common.{All, Bool, List, None, Option, Some, [], ap, append-nil, arith, cond, drop, eqb, false, get_or, inl, inr, leb, length, length-append, length-drop, length-set, length-take, lit<, ltb, map, max, min, mul-zero, nat_le, nat_lt, not, pred, refl, replicate, rules, set, subst, suc, sum_by, sym, take, take-append-drop, true, zero, zero-add, ℕ, ◌%◌, ◌&&◌, ◌*◌, ◌++◌, ◌+◌, ◌-◌, ◌/◌, ◌<◌, ◌^◌, ◌||◌, ◌∙◌, ◌∷◌, ◌≡◌, ◌≢◌, ◌≤◌}
pub use Rattle.std.proofs.Math.Nat.{add-sub_cancel_left, add-zero, min-eq_left, mod-add-mod, mod-eq_of_lt, mod-lt, mod-mod, mul-le-mul, mul-le-mul_left, mul-le-mul_right, one-mul, suc-add, zero-mod}
pub use Rattle.std.proofs.Math.Numerals.{add-one, one-add}
pub use Rattle.std.proofs.Math.Seq.{drop-append_seam, drop-cons, map-set_same, take-add, take-append_seam, take-length}
pub use Rattle.std.proofs.lemmas.Bool.{and_from, and_parts, cases_Bool, cases_eq, cases_lt, eq-eqb, eqb-false, eqb-true, false≢true, le-ltb, leb-true, lt-ltb, ltb-false, ltb-true, ne_eqb, true≢false}
pub use Rattle.std.proofs.lemmas.Int.{to_z-of_z}
pub use Rattle.std.proofs.lemmas.List.{drop-drop, drop-replicate, drop-set-lt, drop_all, get_or-map, get_or-set_other, get_or-take, length-map, length-replicate, length-take-le, map-append, map-set, take-replicate, take_all, take_more, take_more_set}
pub use Rattle.std.proofs.lemmas.List.FromFn.{sum_by-map-range_with_len_more, take-map-range_with_len}
pub use Rattle.std.proofs.lemmas.List.Sums.{sum_by-cons}
pub use Rattle.std.specs.List.{list_all, prefix_len, range_with_len}
pub use Rattle.std.specs.Prelude.{Err, IfSome, Ok, OnErr, Result, codes, decimal, is_some, nat_abs, neg_ℤ, negsuc, option_and_then, option_map, pos, ℤ, ◌*ℤ◌, ◌+ℤ◌, ◌↔◌}
pub use borrow.Author.Tests.{le-leb, lt-leb}
pub use mathlib.Core.List.{append_assoc}
pub use mathlib.Core.Path.{ap₂}
pub use mir.Syntax.{w128, w8}
pub use mir.Val.{SFits, of_z, to_z}
