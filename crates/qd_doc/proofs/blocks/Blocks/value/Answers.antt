use Rattle.std.proofs.Common.{◌≡◌, ◌+◌, ◌∙◌, [], length, get_or, ap, arith}
use Rattle.qd_doc.proofs.BlockLists.{seen_by, listed, row_listed, value_inside, value_seen}
use Rattle.qd_doc.proofs.blocks.Blocks.value.Goals as goal

pub place_of_row-place-requires-clause-listed : goal.place_of_row-place-requires-clause-listed
place_of_row-place-requires-clause-listed c = rw c.deref.ensures.value (listed (seen_by c.self.invariant c.self.view_is c.requires.listed))

pub place_of_row-place-requires-clause-row : goal.place_of_row-place-requires-clause-row
place_of_row-place-requires-clause-row c =
    let all : c.len.result ≡ length c.self.inside.rows.items = omega arith in
    rw (c.deref.ensures.value, all) (row_listed (seen_by c.self.invariant c.self.view_is c.requires.listed) c.args.r c.requires.row)

pub overflow_add-start : goal.overflow_add-start
overflow_add-start c =
    let seen = seen_by c.self.invariant c.self.view_is c.requires.listed in
    let inside = value_inside seen c.args.r c.requires.row c.place_of_row-place.result (rw c.deref.ensures.value at c.place_of_row-place.ensures.place) c.args.p c.requires.place in
    let start = rw c.deref-2.ensures.value at c.range_of-start.ensures.start in
    let count = c.len-2.ensures in
    record { fits = omega (arith, inside, start) }

pub value-requires : goal.value-requires
value-requires c =
    let seen = seen_by c.self.invariant c.self.view_is c.requires.listed in
    let inside = value_inside seen c.args.r c.requires.row c.place_of_row-place.result (rw c.deref.ensures.value at c.place_of_row-place.ensures.place) c.args.p c.requires.place in
    let start = rw c.deref-2.ensures.value at c.range_of-start.ensures.start in
    record { listed = omega (arith, inside, start) }

pub returns : goal.returns
returns c =
    let seen = seen_by c.self.invariant c.self.view_is c.requires.listed in
    let place = rw c.deref.ensures.value at c.place_of_row-place.ensures.place in
    let start = rw c.deref-2.ensures.value at c.range_of-start.ensures.start in
    record {
      value = c.value.ensures.value ∙ ap (λ n. get_or c.self.inside.values (n + c.args.p) []) start
          ∙ value_seen seen c.args.r c.requires.row c.place_of_row-place.result place c.args.p c.requires.place;
    }
