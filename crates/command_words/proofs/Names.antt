-- Names of the standard library, of the crates below and of the definitions of this crate, for its proofs.
unfoldable pub use Rattle.clap.proofs.OnLiterals.{clap_on_literals}
pub use Rattle.clap.proofs.WalkLemmas.{first_value-rows, raw_values-rows}
pub use Rattle.clap.specs.Matches.{found_of}
pub use Rattle.clap.specs.Simple.{App, built, is_simple, matches_of}
unfoldable pub use Rattle.clap.specs.Takes.{walk_passes}
pub use Rattle.clap.specs.Takes.{default_passes, is_valid, level_passes, settle_passes, takes, turn_passes}
unfoldable pub use Rattle.clap.specs.Walk.{walked}
pub use Rattle.clap.specs.Walk.{Held, Row, Rule, Text, Walk, all_of, finished, first_of, idle, nothing_held, positional, rows_of, settled, texts, walk, walk_from}
pub use Rattle.command_words.specs.CommandLine.{command_line}
pub use Rattle.command_words.specs.Found.{found_in}
pub use Rattle.command_words.specs.PlainWords.{are_plain, is_plain}
pub use Rattle.std.proofs.Common.{Bool, List, None, Option, Some, [], ap, codes, cond, drop, false, length, map, nat_eq, not, refl, sym, true, ℕ, ◌&&◌, ◌++◌, ◌∙◌, ◌∷◌, ◌≡◌}
pub use Rattle.std.proofs.lemmas.Result.{IfOk-weaker}
pub use Rattle.std.specs.List.{list_all}
pub use Rattle.std.specs.Prelude.{String, fold, is_some, string_bytes, unwrap_or}
