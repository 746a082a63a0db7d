use Rattle.std.proofs.Common.{◌≡◌, length, arith}
use Rattle.qd_doc.proofs.BlockLists.{seen_by, listed, row_listed, width_seen}
use Rattle.qd_doc.proofs.blocks.Blocks.width.Goals as goal

pub place_of_row-place-requires-clause-listed : goal.place_of_row-place-requires-clause-listed
place_of_row-place-requires-clause-listed c = rw c.deref.ensures.value (listed (seen_by c.self.invariant c.self.view_is c.requires.listed))

pub place_of_row-place-requires-clause-row : goal.place_of_row-place-requires-clause-row
place_of_row-place-requires-clause-row c =
    let all : c.len.result ≡ length c.self.inside.rows.items = omega arith in
    rw (c.deref.ensures.value, all) (row_listed (seen_by c.self.invariant c.self.view_is c.requires.listed) c.args.r c.requires.row)

pub returns-clause-count : goal.returns-clause-count
returns-clause-count c =
    let seen = seen_by c.self.invariant c.self.view_is c.requires.listed in
    let width = width_seen seen c.args.r c.requires.row c.place_of_row-place.result (rw c.deref.ensures.value at c.place_of_row-place.ensures.place) in
    let start = rw c.deref-2.ensures.value at c.range_of-start.ensures.start in
    let end = rw (c.deref-2.ensures.value, c.len-2.ensures.count) at c.range_of-start.ensures.end in
    omega (arith, width, start, end)

pub returns-clause-small : goal.returns-clause-small
returns-clause-small c =
    let seen = seen_by c.self.invariant c.self.view_is c.requires.listed in
    let width = width_seen seen c.args.r c.requires.row c.place_of_row-place.result (rw c.deref.ensures.value at c.place_of_row-place.ensures.place) in
    let end = rw (c.deref-2.ensures.value, c.len-2.ensures.count) at c.range_of-start.ensures.end in
    omega (arith, width, end, c.range_of-start.ensures.inside, c.len-2.ensures.small)
