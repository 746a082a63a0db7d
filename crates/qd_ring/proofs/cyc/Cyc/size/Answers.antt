-- The value has the size of its array.
use Rattle.qd_ring.proofs.Names.{size-value, sym, ◌∙◌}
use Rattle.qd_ring.proofs.cyc.Cyc.size.Goals as goal

pub returns : goal.returns
returns g c = c.size.ensures ∙ sym (size-value g.row.K c.args.self.now.conductor c.args.self.now.coefficients c.args.self.now.array)
