-- Names of the standard library, of the crates below and of the definitions of this crate, for its proofs.
pub use Rattle.algebra.proofs.RingLaws.{mul_nought, nought_add, nought_mul, one_mul}
pub use Rattle.algebra.proofs.SumLaws.{pick_false, pick_true, power_suc, power_zero, sum_ext, sum_suc, sum_zero}
pub use Rattle.algebra.specs.Below.{Below, below_equal}
pub use Rattle.algebra.specs.Structures.{CommRing}
pub use Rattle.algebra.specs.Sums.{power, sum_below}
pub use Rattle.centre_algebra.proofs.CharacterLists.{AreNumbers, C, E, R, U, divides, fixed, image_at, lists_characters, nought_test, number_at}
pub use Rattle.centre_algebra.proofs.Numbers.{Zipped}
pub use Rattle.centre_algebra.specs.CentralCharacters.{regular_sum}
pub use Rattle.centre_algebra.specs.Laws.{AreCentralCharacters}
pub use Rattle.dixon_split.specs.ClassSums.{constant_number, constant_value, product_value, residue_root, residues_at, sum_number, term_at}
pub use Rattle.dixon_split.specs.Elements.{Element, IsElement}
unfoldable pub use Rattle.dixon_split.specs.Layers.{horner_value}
pub use Rattle.dixon_split.specs.Layers.{ArePowers, part_value}
pub use Rattle.dixon_split.specs.Structures.{HasStructure, constant, image_value, residues}
pub use Rattle.dixon_split.specs.Values.{AreValues, IsCentreOf}
pub use Rattle.dixon_split.specs.declared.structure.Structure.{Structure}
pub use Rattle.prime_field.proofs.ResidueRows.{column_at, length_slice, place_in, row_of, values_below}
pub use Rattle.prime_field.proofs.ResidueSums.{at_slice, plus_product_value, residue_of_value, sum_step, tabulated_push}
pub use Rattle.prime_field.proofs.PolynomialValues.{residue_field}
pub use Rattle.prime_field.specs.Field.{field, field_residue}
pub use Rattle.prime_field.specs.Laws.Moduli.{modulus_bound, modulus_over_one, modulus_positive}
pub use Rattle.prime_field.specs.Moduli.{is_modulus}
pub use Rattle.prime_field.specs.ResidueLists.{AreBelow, IsTabulated}
pub use Rattle.prime_field.specs.declared.mod_ring.ModRing.{ModRing}
pub use Rattle.scan.proofs.Places.{all_below-all, all_below-at, first_none-at, first_some}
pub use Rattle.scan.specs.First.{all_below, first}
pub use Rattle.splitting_theory.proofs.Pieces.{parts_keep, parts_single, parts_skip, parts_zero, pieces_split, pieces_suc, pieces_zero, test_false, test_true}
pub use Rattle.splitting_theory.specs.Lists.{Each}
pub use Rattle.splitting_theory.specs.Splitting.{Acts, IsFixed, IsPiece, IsSplitting, ZeroTest, number, part, parts_below, pieces}
pub use Rattle.std.proofs.Common.{All, Bool, Err, IfNone, IfOk, IfSome, List, None, Ok, Option, Result, Some, [], ap, append_assoc, arith, cond, drop, eqb-true, false, get_or, inl, inr, length, length-append, map, refl, rules, subst, suc, sym, take, true, unwrap_or, zero, ℕ, ◌%◌, ◌*◌, ◌++◌, ◌+◌, ◌-◌, ◌/◌, ◌<◌, ◌∙◌, ◌∷◌, ◌≡◌, ◌≢◌, ◌≤◌, ◌⊎◌}
pub use Rattle.std.proofs.Math.Dec.{eqb}
pub use Rattle.std.proofs.Math.Nat.{div-le_self, div-lt_iff_lt-mul, eq_of_mul-eq-mul_left, mod-eq_of_lt, mod-lt, mul-le-mul_right, mul-mod_right, suc-mul, zero-mod}
pub use Rattle.std.proofs.Math.Numerals.{add-one}
pub use Rattle.std.proofs.lemmas.Bool.{cases_lt, eq-eqb}
pub use Rattle.std.proofs.lemmas.List.{get_or-append-add, get_or-append_right, get_or-drop, get_or-map, get_or-take, get_or_append_left, get_or_push, length-drop, length-map, length-take-le, take-append-drop}
pub use Rattle.std.proofs.lemmas.List.Elements.{All-cons, All-head, All-nil, All-tail}
pub use Rattle.std.proofs.lemmas.Nat.{mul-le, mul-mod_first, mul-mod_second}
pub use Rattle.std.specs.List.{concat}
pub use Rattle.std.specs.Prelude.{flat_map, slice_range}
pub use Rattle.twisted.specs.Algebra.{exponent, left_quotient, product_term, root, twisted_product}
pub use Rattle.twisted.specs.Regular.{rank, regular_representatives}
pub use Rattle.twisted.specs.Twist.{IsTwist, TwistedSubgroup, phase, size}
pub use mathlib.Core.Path.{ap₂, fun_ext}
