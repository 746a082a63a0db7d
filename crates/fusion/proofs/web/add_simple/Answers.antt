use Rattle.fusion.proofs.Names.{first-zero, first_none-step, pair_fault}
use Rattle.fusion.proofs.web.add_simple.Goals as goal

pub loop-j-init : goal.loop-j-init
loop-j-init g c = (c.requires.front, first-zero (pair_fault g.row.K c.args.simples.now c.args.i))

pub loop-j-preserved : goal.loop-j-preserved
loop-j-preserved g c = (
  c.in_ok-add_pair.ensures.front,
  first_none-step c.loop-j.j (pair_fault g.row.K c.args.simples.now c.args.i) c.loop-j.invariant.1 c.in_ok-numbers.ensures.whole,
)
