use Rattle.std.proofs.Common.{◌<◌, length}
use Rattle.qd_doc.proofs.ValueLists.{values_length, value_at}
use Rattle.qd_doc.proofs.values.Values.value.Goals as goal

pub stretch-requires-clause-listed : goal.stretch-requires-clause-listed
stretch-requires-clause-listed c =
    rw c.deref.ensures.value (rw (← values_length c.self.inside.starts.items c.self.inside.terms.items c.self.inside.great.items) (rw c.self.view_is c.requires.listed))

pub returns : goal.returns
returns c =
    let starts = c.self.inside.starts.items in
    let terms = c.self.inside.terms.items in
    let great = c.self.inside.great.items in
    let listed : c.args.i < length starts = rw (← values_length starts terms great) (rw c.self.view_is c.requires.listed) in
    record {
      value = rw (c.plain_of.ensures.value, c.stretch.ensures.items, c.deref.ensures.value, c.deref-2.ensures.value, c.deref-3.ensures.value, ← c.self.view_is)
          (value_at starts terms great c.args.i listed);
    }
