use Rattle.std.proofs.Common.{sym}
use Rattle.qd_engine.proofs.MakerWords.{three_numbers}
use Rattle.qd_engine.proofs.command.report_of_words.Goals as goal

pub returns-in_default-clause-command : goal.returns-in_default-clause-command
returns-in_default-clause-command c = sym (three_numbers c.args.word.now c.args.numbers.now c.in_default.len_at_least)
