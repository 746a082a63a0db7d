use Rattle.transport.proofs.Names.{◌≤◌, sym, subst, IsTwist}
use Rattle.transport.proofs.Entries.{few_rows}
use Rattle.transport.proofs.listing.rows.Goals as goal

pub returns-clause-few : goal.returns-clause-few
returns-clause-few g c =
    subst (λ n. n ≤ 60) (sym c.rows.ensures.rows) (few_rows g.row.K c.args.table.now (subst IsTwist c.over.ensures.over c.size-places.ensures.twist) c.over.ensures.good)
