use Rattle.fusion_web.proofs.WalkLaws.{row_begins}
use Rattle.fusion_web.proofs.web.Web.row.Goals as goal

pub returns : goal.returns
returns c = record { items = row_begins c.args.self.now c.simples-simples.ensures.web c.args.i c.args.j c.row_head.result c.requires.j_below c.row_head.ensures.head }
