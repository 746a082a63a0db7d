-- Names of the standard library, of the crates below and of the definitions of this crate, for its proofs.
pub use Rattle.fusion_web.specs.Entries.{AreApart, Entry, IsEntry, IsWeb, WebEntries, count_of, entry_at, into_from, into_of, is_entry_of, kept_from, most_nodes, no_entry, row_from, row_of}
pub use Rattle.fusion_web.specs.Links.{AreLinked, Follows, IsHead, IsLinkedWeb, entry_of, key_at, key_of, next_at, next_of, no_node, node_at, pair_number, ring_at, ring_of, web_of, with_next}
pub use Rattle.fusion_web.specs.Rings.{AreDistinct, IsEmpty, IsFirst, IsLast, IsNext, IsPlaceBefore, IsRinged}
pub use Rattle.fusion_web.specs.Walks.{LeadsTo, into_rest, row_rest}
pub use Rattle.fusion_web.specs.declared.node.Node.{Node}
pub use Rattle.fusion_web.specs.declared.side.Side.{Side}
pub use Rattle.fusion_web.specs.declared.side.Side.TheVariants.{Into, Row}
pub use Rattle.std.proofs.Common.{Bool, List, None, Option, Some, [], ap, append-nil, arith, cond, drop, eq-eqb, eq-or-lt_of_le, false, get_or, get_or-set_other, get_or-set_same, inl, inr, length, length-append, length-set, map, nat_lt, refl, rules, set, subst, suc, sym, take, true, zero, zero-add, ℕ, ◌%◌, ◌*◌, ◌++◌, ◌+◌, ◌-◌, ◌/◌, ◌<◌, ◌==◌, ◌∙◌, ◌∷◌, ◌≡◌, ◌≢◌, ◌≤◌, ◌⊎◌}
pub use Rattle.std.proofs.lemmas.Bool.{cases_eq, cases_lt, eqb-true, lt-ltb, ltb-false, ne_eqb}
pub use Rattle.std.proofs.lemmas.List.{drop_all, get_or-map, get_or_append_left, get_or_default, get_or_push, length-map, map_push, take_all}
pub use Rattle.std.proofs.lemmas.Nat.{div-add-mod', div-mul-add, mod-mul-add, row_fits}
pub use Rattle.std.specs.List.{filter, find, range_with_len, sum_by}
pub use Rattle.std.specs.Option.{option_map_or, option_or}
pub use mathlib.Core.Path.{ap₂}
