use Rattle.std.proofs.Common.{◌∙◌, ap}
use Rattle.fusion_web.proofs.WalkLaws.{lookup, lookup-row_of}
use Rattle.fusion_web.proofs.web.Web.count.Goals as goal

pub loop-result-init : goal.loop-result-init
loop-result-init c = (
  tt,
  tt,
  ap (lookup c.args.k) (c.into_iter-result-iterator.ensures.into_iter_gives ∙ c.row-result-items.ensures.items) ∙ lookup-row_of c.args.self.now c.args.i c.args.j c.args.k c.requires.k_below,
)
