-- Names of the standard library, of the crates below and of the definitions of this crate, for its proofs.
unfoldable pub use Rattle.qd_text.specs.Numbers.{number_of}
pub use Rattle.qd_text.specs.Numbers.{is_digit, value}
unfoldable pub use Rattle.qd_text.specs.Tokens.{blanked, runs}
pub use Rattle.qd_text.specs.Tokens.{Lexeme, in_comment, is_blank, is_mark, is_separator, is_token_byte, tokens, tokens_from}
pub use Rattle.std.proofs.Common.{Bool, Err, List, Ok, [], add-one, add-zero, ap, arith, cond, drop, drop-cons, false, get_or, length, length-append, length-drop, map, min, nat_le, nat_lt, not, refl, suc, sym, take, true, ℕ, ◌%◌, ◌&&◌, ◌*◌, ◌++◌, ◌+◌, ◌-◌, ◌/◌, ◌<◌, ◌==◌, ◌^◌, ◌||◌, ◌∙◌, ◌∷◌, ◌≡◌, ◌≤◌}
pub use Rattle.std.proofs.lemmas.List.Folds.{length-prefix_len, list_all-append}
pub use Rattle.std.proofs.lemmas.List.Sums.{fold-append, fold_more, prefix_len-le-length, take_while-cons}
pub use Rattle.std.specs.List.{list_all, prefix_len, take_while}
