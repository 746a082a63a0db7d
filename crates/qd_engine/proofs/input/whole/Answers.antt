use Rattle.std.proofs.Common.{Err, ap, ◌∙◌}
use Rattle.qd_engine.proofs.Inputs.{more_was_left}
use Rattle.qd_engine.proofs.input.whole.Goals as goal

pub returns-in-Err-TooLong-clause-reads : goal.returns-in-Err-TooLong-clause-reads
returns-in-Err-TooLong-clause-reads g c =
    more_was_left _ _ _ (c.read_all.ensures.too_long (c.in-Err-TooLong.is ∙ ap Err c.in-Err-TooLong.field-0-is))
