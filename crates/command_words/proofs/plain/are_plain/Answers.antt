use Rattle.std.proofs.Common.{sym, ◌∙◌}
use Rattle.command_words.proofs.SomeWords.{plain_where_some}
use Rattle.command_words.proofs.plain.are_plain.Goals as goal

pub returns-then-not-is_empty : goal.returns-then-not-is_empty
returns-then-not-is_empty c = record { plain = c.each_is_plain.ensures.each ∙ plain_where_some c.args.words.now (sym c.if-not-is_empty.ensures) }
