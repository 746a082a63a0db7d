use Rattle.std.proofs.Common.{◌+◌, ◌*◌, ◌<◌, ◌^◌, length, arith}
use Rattle.dixon_split.proofs.Lists.{place_below, value_at}
use Rattle.dixon_split.proofs.central.Central.value.Goals as goal

pub offset_bounds-as_slice-place : goal.offset_bounds-as_slice-place
offset_bounds-as_slice-place c =
    let e = c.as_slice.ensures.numbers in
    let h : c.args.i * c.self.inside.width + c.args.c < length c.self.inside.values = place_below c.self.inside.width c.self.inside.values c.args.self.now c.args.i c.args.c c.self.view_is c.self.invariant.1 c.requires.list c.requires.class in
    let k : length c.self.inside.values * 4 < 2 ^ 63 = rw c.as_slice.ensures.numbers at c.as_slice.type_inv.1 in
    omega arith

pub bounds-as_slice-place : goal.bounds-as_slice-place
bounds-as_slice-place c =
    rw c.as_slice.ensures.numbers (place_below c.self.inside.width c.self.inside.values c.args.self.now c.args.i c.args.c c.self.view_is c.self.invariant.1 c.requires.list c.requires.class)

pub returns : goal.returns
returns c = record {
  value = rw c.as_slice.ensures.numbers (value_at c.self.inside.width c.self.inside.values c.args.self.now c.args.i c.args.c c.self.view_is c.requires.list c.requires.class);
}
