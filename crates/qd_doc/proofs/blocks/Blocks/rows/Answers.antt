use Rattle.std.proofs.Common.{◌≡◌, length, arith}
use Rattle.qd_doc.proofs.BlockLists.{seen_by, listed, rows_seen, rows_few}
use Rattle.qd_doc.proofs.blocks.Blocks.rows.Goals as goal

pub rows_in-requires-clause-listed : goal.rows_in-requires-clause-listed
rows_in-requires-clause-listed c = rw c.deref.ensures.value (listed (seen_by c.self.invariant c.self.view_is c.requires.listed))

pub returns-clause-count : goal.returns-clause-count
returns-clause-count c =
    let all : c.len.result ≡ length c.self.inside.rows.items = omega arith in
    let rows = rw (c.deref.ensures.value, all) at c.rows_in.ensures.rows in
    omega (arith, rows_seen (seen_by c.self.invariant c.self.view_is c.requires.listed), rows)

pub returns-clause-small : goal.returns-clause-small
returns-clause-small c = rows_few (seen_by c.self.invariant c.self.view_is c.requires.listed)
