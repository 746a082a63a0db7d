use Rattle.qd_doc.proofs.ValueWords.{value_read}
use Rattle.qd_doc.proofs.characters.values_are_spelled.Goals as goal

pub returns : goal.returns
returns c = record { law = value_read }
