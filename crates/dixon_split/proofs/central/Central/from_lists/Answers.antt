use Rattle.dixon_split.proofs.Lists.{concat-central, widths-central}
use Rattle.dixon_split.proofs.central.Central.from_lists.Goals as goal

pub returns-clause-values : goal.returns-clause-values
returns-clause-values c = concat-central c.args.width c.args.values c.requires.whole

pub returns-clause-widths : goal.returns-clause-widths
returns-clause-widths c = widths-central c.args.width c.args.values c.requires.whole
