use Rattle.fusion_web.proofs.WalkLaws.{into_begins}
use Rattle.fusion_web.proofs.web.Web.into.Goals as goal

pub returns : goal.returns
returns c = record { items = into_begins c.args.self.now c.simples-simples.ensures.web c.args.k c.into_head.result c.into_head.ensures.head }
