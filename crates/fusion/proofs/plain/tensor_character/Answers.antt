use Rattle.fusion.specs.Kept.{tensor_part}
use Rattle.fusion.proofs.plain.tensor_character.Goals as goal

pub loop-h-init : goal.loop-h-init
loop-h-init g c = c.zero-total.ensures.none_added (tensor_part g.row.K c.args.simples.now c.args.i c.args.j c.args.g c.args.x)
