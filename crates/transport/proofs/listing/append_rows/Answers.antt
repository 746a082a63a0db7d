use Rattle.transport.proofs.Names.{ap, ◌∙◌, map, simple_of, simple_in}
use Rattle.transport.proofs.Entries.{one_more_after}
use Rattle.transport.proofs.listing.append_rows.Goals as goal

pub loop-r-preserved : goal.loop-r-preserved
loop-r-preserved g c =
    ap (map (simple_in g.row.K)) c.in_ok-push.ensures.items
    ∙ one_more_after (simple_in g.row.K) (simple_of g.row.K c.args.c c.args.table.now) c.loop-r.r (map (simple_in g.row.K) c.args.entries.now.items)
    c.loop-r.entries.items c.in_ok-entry.entry c.loop-r.invariant c.in_ok-entry.ensures.entry
