use Rattle.transport.proofs.Names.{◌<◌, length, subst, sym, arith, RowsOver, characters_of, SimplesOver, count, simple_in}
use Rattle.transport.proofs.Listed.{IsRow, entry_is_row, twist_small}
use Rattle.transport.proofs.simples.Simples.twist.Goals as goal
use Rattle.transport.proofs.simples.Simples.twist.Given.{Over}
use Rattle.transport.proofs.simples.Simples.twist.Goals.{After-index-entry}

is_row : (g : Over) (c : After-index-entry g) → IsRow g.row.K c.self.inside.tables (simple_in g.row.K c.index-entry.result.now)
is_row g c =
    let k = g.row.K in
    entry_is_row k c.self.inside.tables c.self.inside.entries.items c.self.invariant.listed c.args.i c.index-entry.result.now
    (subst (λ (s : SimplesOver). c.args.i < count k s) (sym c.self.view_is) c.requires.i_below) c.index-entry.ensures

pub at-requires : goal.at-requires
at-requires g c = (omega arith, (omega arith, (is_row g c).class_below))

pub twist-requires : goal.twist-requires
twist-requires g c =
    (omega arith, subst (λ (t : RowsOver). c.index-entry.result.now.row < length t.rows) (sym c.at.ensures.table) (is_row g (goal.at.twist-requires g c).After-index-entry).row_below)

pub returns-clause-below : goal.returns-clause-below
returns-clause-below g c = twist_small c.at.result.now.over (characters_of g.row.K c.at.result.now.rows) c.index-entry.result.now.row c.twist.result c.twist.ensures.twist
