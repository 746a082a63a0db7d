use Rattle.transport.proofs.Names.{ap, ◌∙◌, ascending, simples_of}
use Rattle.transport.proofs.Entries.{sorted_entries}
use Rattle.transport.proofs.listing.listed.Goals as goal

pub returns-clause-listed : goal.returns-clause-listed
unfolding simples_of
returns-clause-listed g c =
    sorted_entries g.row.K c.in_ok-entries.entries.items c.sort.new.self.items c.sort.ensures.permutation c.in_ok-sort.ensures.sorted
    ∙ ap ascending c.in_ok-entries.ensures.rows
