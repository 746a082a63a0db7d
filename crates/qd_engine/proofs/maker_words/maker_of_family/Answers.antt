use Rattle.std.proofs.Common.{sym}
use Rattle.qd_engine.proofs.MakerWords.{five_numbers}
use Rattle.qd_engine.proofs.maker_words.maker_of_family.Goals as goal

pub returns-in_default : goal.returns-in_default
returns-in_default c = record { maker = sym (five_numbers c.args.family.now c.args.numbers.now c.in_default.len_at_least) }
