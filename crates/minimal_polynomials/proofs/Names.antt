-- The names of the standard library, of the crates below and of the definitions that the proofs use.
pub use Rattle.std.proofs.Common.{Bool, List, [], add-one, ap, arith, cond, false, get_or, inl, inr, length, length-append, map, refl, subst, suc, sym, true, zero, ℕ, ◌%◌, ◌+◌, ◌-◌, ◌<◌, ◌∙◌, ◌∷◌, ◌≡◌, ◌≢◌, ◌≤◌, ◌⊎◌}
pub use Rattle.std.proofs.Math.Dec.{eqb}
pub use Rattle.std.proofs.Math.Nat.{mod-eq_of_lt}
pub use Rattle.std.proofs.lemmas.Bool.{cases_lt}
pub use Rattle.std.proofs.lemmas.List.{length-map}
pub use mathlib.Core.Path.{ap₂, fun_ext}
pub use Rattle.algebra.proofs.FieldLaws.{decide, test_passes}
pub use Rattle.algebra.proofs.PolynomialLaws.{value_cons, value_nil}
pub use Rattle.algebra.proofs.RingLaws.{add_mul, mul_left_comm, mul_nought, nought_add, nought_mul, one_mul, ring_rules}
pub use Rattle.algebra.proofs.SumLaws.{mul_sum, pick_mul, power_suc, power_zero, sum_exchange, sum_ext, sum_first, sum_mul, sum_nought, sum_pick, sum_zero}
pub use Rattle.algebra.specs.Below.{Below, below_equal}
pub use Rattle.algebra.specs.Fields.{Field}
pub use Rattle.algebra.specs.Polynomials.{value}
unfoldable pub use Rattle.algebra.specs.Polynomials.{AllNought}
pub use Rattle.algebra.specs.Roots.{RootOfUnity}
pub use Rattle.algebra.specs.Structures.{CommRing}
pub use Rattle.algebra.specs.Sums.{pick, power, sum_below}
unfoldable pub use Rattle.algebra.specs.Totals.{equals}
unfoldable pub use Rattle.central_ext.specs.PowersOfUnits.{algebra_power}
pub use Rattle.centre_algebra.proofs.CentreRing.{Centre, basis_at, basis_product, centre_ring, lift, lift_at, lift_read, number_of, product_at, rank_positive, rep, rep_below, scales, spread, spread_below, sum_at, unit_at_place}
pub use Rattle.centre_algebra.specs.CentralCharacters.{regular_sum}
pub use Rattle.centre_powers.proofs.FixedPowers.{restricted, twist_ring}
pub use Rattle.group_table.proofs.Numbers.{passing_below-fails, passing_below-passes}
pub use Rattle.group_table.specs.Group.{identity_of}
pub use Rattle.group_table.specs.Numbers.{passing_below}
pub use Rattle.power_theory.specs.Rings.{Ring}
pub use Rattle.prime_field.proofs.PolynomialRoots.{fewer_roots}
pub use Rattle.prime_field.proofs.PolynomialValues.{coefficient_nought, residue_field, residues_apart, roots_are}
pub use Rattle.prime_field.specs.Evaluation.{is_root}
pub use Rattle.prime_field.specs.Field.{field, field_residue}
pub use Rattle.prime_field.specs.Laws.Field.{value_nought}
pub use Rattle.prime_field.specs.Laws.Moduli.{modulus_over_one}
pub use Rattle.prime_field.specs.Moduli.{is_modulus}
pub use Rattle.prime_field.specs.ResidueLists.{AreBelow}
pub use Rattle.prime_field.specs.declared.mod_ring.ModRing.{ModRing}
pub use Rattle.splitting_theory.proofs.Coordinates.{of_nought, of_number}
pub use Rattle.splitting_theory.proofs.Parts.{part_acts, parts_total}
pub use Rattle.splitting_theory.specs.Algebras.{HasBasis}
pub use Rattle.splitting_theory.specs.Splitting.{IsFixed, ZeroTest, number, part}
pub use Rattle.twisted.proofs.AlgebraLaws.{combination_central, product_associates, product_on_places}
pub use Rattle.twisted.specs.Algebra.{IsCentral, class_sum, left_quotient, product_term, root, twisted_product, unit_vector}
pub use Rattle.twisted.specs.Regular.{rank}
pub use Rattle.twisted.specs.Twist.{IsTwist, TwistedSubgroup, phase, size}
pub use Rattle.minimal_polynomials.specs.Laws.{IsMinimalOfClass, Serves}
pub use Rattle.minimal_polynomials.specs.MinimalPolynomials.{IsNoughtAt, polynomial_at}
