-- Names of the standard library, of the crates below and of the definitions of this crate, for its proofs.
pub use Rattle.algebra.proofs.SumLaws.{mul_multiple, mul_sum, multiple_suc, multiple_zero, one_power, power_add, power_mul, power_suc, power_zero, sum_constant, sum_ext, sum_first, sum_list_cons, sum_list_nil, sum_suc}
pub use Rattle.algebra.specs.Sums.{multiple, power, sum_below, sum_list}
unfoldable pub use Rattle.cyclotomic.specs.Conductors.{conductors, is_conductor, least_conductor, phi_of, reduction_of, reductions}
pub use Rattle.cyclotomic.specs.Conductors.{IsLeastConductor}
unfoldable pub use Rattle.cyclotomic.specs.Cyclotomic.{cyclotomic, cyclotomics, divided_by_divisors, divisor_product, next_cyclotomic}
pub use Rattle.cyclotomic.specs.Cyclotomic.{x_to_minus_one}
pub use Rattle.cyclotomic.specs.CyclotomicRing.{CyclotomicValue, conjugate, cyclotomic_ring, galois_image, remainder_ring, root}
unfoldable pub use Rattle.cyclotomic.specs.Division.{cancelled, division, quotient, remainder}
pub use Rattle.cyclotomic.specs.Division.{degree}
unfoldable pub use Rattle.cyclotomic.specs.Fit.{product_fits, size_of, sizes_overflow, value_fits}
pub use Rattle.cyclotomic.specs.Fit.{greatest_magnitude, value_size}
unfoldable pub use Rattle.cyclotomic.specs.Laws.Action.{horner, iterate}
pub use Rattle.cyclotomic.specs.Laws.Action.{LinearMap, act, act-at_power, act-cons, act-iterate, act-map, act-nil, act-one, act-plus, act-power_power, act-remainder, act-same_map, act-times, act-x_to, division-sum, iterate-add, iterate-inner, iterate-power, iterate-scale, iterate-suc, iterate-sum, iterate-zero, map_nought, map_power}
pub use Rattle.cyclotomic.specs.Laws.Polynomials.{leading-last, lower-last}
pub use Rattle.cyclotomic.specs.Laws.Remainders.{length-remainder}
unfoldable pub use Rattle.cyclotomic.specs.Laws.Values.{value_shift}
pub use Rattle.cyclotomic.specs.Laws.Values.{act-itself, product-act, product-of, same_value, times_x, value_of-act}
unfoldable pub use Rattle.cyclotomic.specs.Polynomial.{at_power, coefficient, leading, lower, plus, scaled, times, x_to}
pub use Rattle.cyclotomic.specs.Polynomial.{IsSamePolynomial, zeros}
unfoldable pub use Rattle.cyclotomic.specs.Ring.{value_image, value_multiple, value_nought, value_of, value_product, value_sum}
pub use Rattle.cyclotomic.specs.Ring.{Value, value_one, value_root}
unfoldable pub use Rattle.scan.specs.First.{all_below}
pub use Rattle.std.proofs.Common.{Bool, IsPermutation, List, None, Option, Some, [], ap, arith, cond, eq-eqb, eqb-true, false, get_or, inl, inr, length, map, max, refl, replicate, subst, suc, sum_by, sym, true, zero, ℕ, ◌%◌, ◌&&◌, ◌*◌, ◌++◌, ◌+◌, ◌-◌, ◌/◌, ◌<◌, ◌^◌, ◌||◌, ◌∙◌, ◌∷◌, ◌≡◌, ◌≢◌, ◌≤◌}
pub use Rattle.std.proofs.Math.Nat.{dvd-mod_iff, dvd-mul_right, dvd-mul_right_of_dvd, mod-eq_of_lt, mod-lt, mod_self, mul-le-mul, mul-le-mul_left, mul-le-mul_right, mul_comm, one-dvd, suc-mul, zero-mul}
pub use Rattle.std.proofs.lemmas.Bool.{cases_eq, cases_lt, ne_eqb}
pub use Rattle.std.proofs.lemmas.Nat.Gcd.{IsGcd-from_mod, IsGcd-from_zero, mod-eq-zero_of_dvd, same_from_IsGcd}
pub use Rattle.std.specs.Int.{IsGcd}
pub use Rattle.std.specs.List.{list_all, list_any}
pub use Rattle.std.specs.Prelude.{find, nat_abs, nat_le, nat_lt, neg_ℤ, negsuc, not, pos, ℤ, ◌*ℤ◌, ◌+ℤ◌, ◌==◌, ◌↔◌}
pub use borrow.Author.Differences.{abs_is, down, product_is, same_in, sum_is_lem, up}
pub use borrow.Author.Tests.{le-leb, le-ltb, leb-true, ltb-false, ltb-true}
pub use mathlib.Core.Path.{ap₂}
