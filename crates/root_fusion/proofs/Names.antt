-- Names of the standard library, of the crates below and of the definitions of this crate, for its proofs.
unfoldable pub use Rattle.cyclotomic.specs.Conductors.{is_conductor}
pub use Rattle.cyclotomic.specs.Fit.{greatest_magnitude}
pub use Rattle.indicators.specs.Indicators.{indicator_term, quotient_exponent, term_at}
pub use Rattle.root_fusion.specs.FusionFit.{CharactersAreRootSums, CharactersFit, FusionSumsFit, OfRootSimples, TensorProductsFit}
pub use Rattle.root_fusion.specs.IndicatorLists.{dimensions, numbers_into, twists}
pub use Rattle.root_fusion.specs.IndicatorsFit.{DimensionsAreSmall, IndicatorsFit, IsSmall, NumbersAreSmall, SimplesAreFew, SmallSumsFit}
pub use Rattle.root_tables.proofs.FormedRoots.{FormedOfRoots, conjugated_formed, few_fit, few_together, listed_formed, multiplied_formed, of_roots, turned_formed, where_formed, whole_formed}
pub use Rattle.std.proofs.Common.{Bool, List, None, Option, Some, [], ap, ap₂, arith, false, get_or, le_trans, length, map, refl, subst, suc, sym, true, zero, zero-add, ℕ, ◌%◌, ◌*◌, ◌+◌, ◌-◌, ◌/◌, ◌<◌, ◌==◌, ◌^◌, ◌∙◌, ◌∷◌, ◌≡◌, ◌≤◌}
pub use Rattle.std.proofs.Math.Nat.{mod_self, mul-le-mul, mul_assoc, suc-mul, zero-mul}
pub use Rattle.std.proofs.lemmas.Bool.{leb-true}
pub use Rattle.std.proofs.lemmas.List.FromFn.{get_or-map-range_with_len, length-map-range_with_len}
pub use Rattle.std.proofs.lemmas.Nat.{div_below, mod_below}
pub use Rattle.std.specs.List.{All, range_with_len}
pub use Rattle.std.specs.Prelude.{unwrap_or}
pub use Rattle.table_check.specs.Formed.{Formed, conjugated, given, multiplied, where_so, whole}
pub use Rattle.transport.proofs.Listed.{over_is_twist, place_small, simple_is_row, twist_small}
pub use Rattle.transport.specs.FullCharacters.{carried_value, element_value, full_character, root_exponent}
pub use Rattle.transport.specs.Fusion.{AreFusionNumbers, fusion_sum, left_quotient, tensor_character, tensor_term}
pub use Rattle.transport.specs.Headline.{OfAllSimples, order_of}
pub use Rattle.transport.specs.SSums.{s_sum}
pub use Rattle.transport.specs.Simples.{AreSimples, SimplesOver, characters_at, class_at, count, dimension_at, over_at, simple_at, twist_at}
pub use mathlib.Core.Logic.{inl, inr, ◌⊎◌}
pub use Rattle.group_table.specs.Group.{commute}
