-- The names of libraries that the proofs cite.
pub use Rattle.classes.specs.Conjugacy.{class_of, conjugate, least_transporter, other_representatives, representative_of, representatives}
pub use Rattle.classes.specs.Kept.{class_at}
pub use Rattle.classes.specs.Sweep.{reach, reach_below, reach_of}
pub use Rattle.classes.specs.declared.class_table.Class.{Class}
pub use Rattle.classes.specs.declared.sweep.Reach.{Reach}
pub use Rattle.group_table.proofs.Numbers.{IsPassing, begun_contains, begun_differ, length-passing_below, passing_below-all, passing_below-exactly, passing_below-ext, passing_below-suc, passing_below-zero}
pub use Rattle.group_table.proofs.Sentences.{closed, identity_below, two_sided_inverse}
pub use Rattle.group_table.specs.Group.{IsGroup, Table, identity_of, inverse, product}
pub use Rattle.group_table.specs.Numbers.{passing_below}
pub use Rattle.scan.proofs.Places.{and_true, first-ext, first-suc, first-zero, first_found, first_none}
pub use Rattle.scan.proofs.Searches.{IsLeastPassing, is_some_of, least_passing, least_passing_found, same_test, some_of}
pub use Rattle.scan.specs.First.{first, option_or}
pub use Rattle.std.proofs.Common.{Bool, List, None, Option, Some, [], add-one, add-zero, ap, arith, cond, eq-eqb, eq-or-lt_of_le, eqb-true, false, get_or, get_or-set_other, get_or-set_same, inl, inr, length, length-append, map, nat_eq, not, refl, replicate, set, suc, sym, take, true, zero, ℕ, ◌&&◌, ◌*◌, ◌++◌, ◌+◌, ◌<◌, ◌↔◌, ◌∙◌, ◌∷◌, ◌≡◌, ◌≢◌, ◌≤◌, ◌⊎◌}
pub use Rattle.std.proofs.lemmas.List.{get_or-replicate, get_or_append_left, get_or_default, get_or_push, length-map}
pub use Rattle.std.proofs.lemmas.List.Elements.{All-cons, All-get_or, All-weaker}
pub use Rattle.std.specs.Prelude.{is_some, unwrap_or}
