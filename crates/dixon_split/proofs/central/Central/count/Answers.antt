use Rattle.dixon_split.proofs.Names.{length, arith, div-le_self}
use Rattle.dixon_split.proofs.Lists.{count_is, widths_are}
use Rattle.dixon_split.proofs.central.Central.count.Goals as goal

pub returns-clause-count : goal.returns-clause-count
returns-clause-count c = rw c.len.ensures.count (count_is c.self.inside.width c.self.inside.values c.args.self.now c.self.view_is)

pub returns-clause-small : goal.returns-clause-small
returns-clause-small c = rw (← (count_is c.self.inside.width c.self.inside.values c.args.self.now c.self.view_is)) (omega (arith, div-le_self (length c.self.inside.values) c.self.inside.width))

pub returns-clause-widths : goal.returns-clause-widths
returns-clause-widths c = widths_are c.self.inside.width c.self.inside.values c.args.self.now c.self.view_is c.self.invariant.1
