-- Names of the standard library, of the crates below and of the definitions of this crate, for its proofs.
pub use Rattle.cyclotomic.specs.CyclotomicRing.{cyclotomic_value}
pub use Rattle.data_print.specs.ClassLines.{class_line}
pub use Rattle.data_print.specs.FusionLines.{number_line, product_text, products_text}
pub use Rattle.data_print.specs.SimpleLines.{character_line, first_values, simple_line}
unfoldable pub use Rattle.data_print.specs.Text.{first_lines}
pub use Rattle.data_print.specs.Text.{AddsFront, ◌⧺◌}
pub use Rattle.data_print.specs.Values.{value_word, value_words}
pub use Rattle.fusion_web.specs.Entries.{WebEntries, count_of, row_of}
pub use Rattle.qd_ring.specs.RowLists.{row_at}
pub use Rattle.std.proofs.Common.{All, Bool, List, [], add-one, ap, append-nil, append_assoc, arith, cond, eqb, false, inl, inr, length, map, nat_lt, refl, subst, suc, sym, take, true, zero, zero-add, ℕ, ◌*◌, ◌++◌, ◌+◌, ◌-◌, ◌<◌, ◌^◌, ◌∙◌, ◌∷◌, ◌≡◌, ◌≤◌, ◌⊎◌}
pub use Rattle.std.proofs.lemmas.List.{flat_map_more, map_more, take_all}
pub use Rattle.std.specs.Prelude.{Err, Ok, OnErr, OnOk, Result, codes, nat_abs, pos, slice_index, sum, ℤ}
pub use Rattle.transport.specs.Simples.{AreSimples, SimplesOver, class_at, over_at, value_at}
pub use mathlib.Core.Path.{ap₂}
