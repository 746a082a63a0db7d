-- Names of the standard library, of the crates below and of the definitions of this crate, for its proofs.
pub use Rattle.algebra.proofs.GroupLaws.{commuting_of_conj, conj_injective, conj_inv, conj_is, conj_of_commuting, conj_of_inv, conj_one, conj_op, group_rules, inv_conj, inv_inv, inv_op_op, inv_unique, one_conj, op_cancel_left, op_cancel_right, op_conj, op_inv_cancel, op_inv_op, op_op_inv}
pub use Rattle.algebra.proofs.InvolutionLaws.{bar_nought, bar_one}
pub use Rattle.algebra.proofs.RingLaws.{mul_left_comm, mul_nought, neg_neg, neg_unique, nought_mul, one_mul, product_rules}
pub use Rattle.algebra.proofs.SumLaws.{mul_multiple, mul_pick, multiple_is_mul, multiple_map, multiple_mul, multiple_multiple, multiple_neg, multiple_of_add, pick_cong, pick_false, pick_map, pick_mul, pick_nought, pick_of, pick_off, pick_swap, pick_true}
pub use Rattle.algebra.proofs.TotalLaws.{equals_false, equals_of, equals_true, mul_total, pick_total, total_constant, total_exchange, total_ext, total_map, total_mul, total_nought, total_pick, total_reindex}
pub use Rattle.algebra.specs.Groups.{Group, conj}
pub use Rattle.algebra.specs.Structures.{CommRing}
pub use Rattle.algebra.specs.Sums.{IsTorsionFree, multiple, pick}
pub use Rattle.algebra.specs.Totals.{Finite, equals, total}
unfoldable pub use Rattle.characters.specs.FullCharacters.{full_character, in_class}
unfoldable pub use Rattle.characters.specs.Fusion.{fusion_sum, tensor_character}
pub use Rattle.characters.specs.Fusion.{AreFusionNumbers}
unfoldable pub use Rattle.characters.specs.Pairs.{inner_product, pair_sum}
pub use Rattle.characters.specs.Pairs.{IsCovariant}
pub use Rattle.characters.specs.Parts.{IsPart, IsSubgroup}
unfoldable pub use Rattle.characters.specs.PhaseRoots.{conjugation_root, coproduct_root, slant_root, transport_root}
unfoldable pub use Rattle.characters.specs.SMatrix.{dimension, pair_term, s_sum}
unfoldable pub use Rattle.characters.specs.Setting.{commute}
pub use Rattle.characters.specs.Setting.{Classes, Commuting, Setting}
pub use Rattle.characters.specs.Simples.{IsVacuum, Simples}
unfoldable pub use Rattle.characters.specs.Tables.{centraliser_order, centraliser_product, group_order}
pub use Rattle.characters.specs.Tables.{GoodTable, GoodTables, centraliser_sum}
pub use Rattle.characters.specs.Twists.{AreTwists}
pub use Rattle.std.proofs.Common.{Bool, ap, arith, false, refl, subst, sym, true, ℕ, ◌*◌, ◌+◌, ◌<◌, ◌∙◌, ◌≡◌, ◌≤◌}
pub use mathlib.Core.Path.{ap₂}
