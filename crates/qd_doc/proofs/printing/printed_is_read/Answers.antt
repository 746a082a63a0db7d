use Rattle.qd_doc.proofs.RoundTrip as laws
use Rattle.qd_doc.proofs.printing.printed_is_read.Goals as goal

pub returns : goal.returns
returns c = record { law = laws.printed_is_read }
