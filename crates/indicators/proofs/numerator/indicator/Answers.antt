use Rattle.indicators.specs.Indicators.{term_at}
use Rattle.indicators.proofs.numerator.indicator.Goals as goal

pub loop-q-init : goal.loop-q-init
loop-q-init g c = c.zero-total.ensures.none_added (term_at g.row.K c.args.plane.now c.args.dims.now c.args.twists.now c.args.m)
