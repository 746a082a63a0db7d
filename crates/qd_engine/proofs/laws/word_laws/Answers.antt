use Rattle.qd_engine.proofs.WordLaws.{dash_is_no_command, unplain_is_no_command}
use Rattle.qd_engine.proofs.laws.word_laws.Goals as goal

pub returns : goal.returns
returns c = record { dash = dash_is_no_command; unplain = unplain_is_no_command }
