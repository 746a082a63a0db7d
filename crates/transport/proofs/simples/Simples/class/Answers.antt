use Rattle.transport.proofs.Names.{◌≡◌, ◌<◌, length, subst, sym, ap, ◌∙◌, representatives, representative_at, centraliser_of, size, SimplesOver, Simple, count, over_at, table_at}
use Rattle.transport.proofs.Listed.{entry_is_row, entry_kept, places_of}
use Rattle.transport.proofs.simples.Simples.class.Goals as goal
use Rattle.transport.proofs.simples.Simples.class.Given.{Over}
use Rattle.transport.proofs.simples.Simples.class.Goals.{After-index}

in_range : (g : Over) (c : After-index g) → c.args.i < count g.row.K (record { cocycle = c.self.inside.cocycle; tables = c.self.inside.tables })
in_range g c = subst (λ (s : SimplesOver). c.args.i < count g.row.K s) (sym c.self.view_is) c.requires.i_below

class_below : (g : Over) (c : After-index g) → c.index.result.now.class < length c.self.inside.tables
class_below g c =
    (entry_is_row g.row.K c.self.inside.tables c.self.inside.entries.items c.self.invariant.listed c.args.i c.index.result.now (in_range g c) c.index.ensures).class_below

pub returns-clause-below : goal.returns-clause-below
returns-clause-below g c =
    let d = (goal.at.returns-clause-below g c).After-index in
    subst (λ (s : SimplesOver). c.index.result.now.class < length (representatives s.cocycle.group)) c.self.view_is
    (subst (λ n. c.index.result.now.class < n) c.self.invariant.simples.tables.count (class_below g d))

pub returns-clause-places : goal.returns-clause-places
returns-clause-places g c =
    let k = g.row.K in
    let d = (goal.at.returns-clause-places g c).After-index in
    let tables = c.self.inside.tables in
    let kept = entry_kept k tables c.self.inside.entries.items c.self.invariant.listed c.args.i c.index.result.now (in_range g d) c.index.ensures in
    subst
    (λ (s : SimplesOver).
    size (over_at k s c.args.i) ≡ length (centraliser_of s.cocycle.group (representative_at s.cocycle.group c.index.result.now.class)))
    c.self.view_is
    (sym (ap (λ (a : Simple). size (table_at tables a.class).over) kept)
    ∙ places_of (record { cocycle = c.self.inside.cocycle; tables = tables }) c.self.invariant.simples.tables c.index.result.now.class (class_below g d))
