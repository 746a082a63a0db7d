use Rattle.fusion_web.proofs.SumLaws.{row_sums, into_sums, counts_grow}
use Rattle.fusion_web.proofs.laws.web_laws.Goals as goal

pub returns : goal.returns
returns c = record { rows = row_sums; intos = into_sums; counts = counts_grow }
