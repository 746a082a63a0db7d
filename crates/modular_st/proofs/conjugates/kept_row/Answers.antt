use Rattle.std.proofs.Common.{◌+◌, arith, sym, ◌∙◌, ap, subst}
use Rattle.modular_st.proofs.KeptRows.{IsKeptFront, front_none, front_more, front_same, front_all}
use Rattle.modular_st.proofs.conjugates.kept_row.Goals as goal
use Rattle.modular_st.proofs.conjugates.kept_row.Goals.{then-meets+in-Some+in_ok-push, else-meets}

pub loop-m-init : goal.loop-m-init
loop-m-init g c = front_none g.row.K c.args.simples.now c.args.pairs.now c.args.i c.args.d c.new-row.result.items c.new-row.ensures.items

pub loop-m-preserved : goal.loop-m-preserved
loop-m-preserved g c = elim c.if-meets.branch [
  | then-meets+in-Some+in_ok-push w ↦
      let k = g.row.K in
      let s = c.args.simples.now in
      subst (IsKeptFront k s c.args.pairs.now c.args.i c.args.d (c.loop-m.m + 1)) (sym (ap (λ row. row.items) w.row-is ∙ w.in_ok-push.ensures.items))
      (front_more k s c.args.pairs.now c.args.i c.args.d c.loop-m.m c.loop-m.row.items c.loop-m-test.true c.loop-m.invariant w.in-Some.terms
      (sym c.meets.ensures.meets ∙ w.if-meets.true) w.in-Some.ensures.value w.in-Some.ensures.small)
  | else-meets w ↦
      let k = g.row.K in
      let s = c.args.simples.now in
      subst (IsKeptFront k s c.args.pairs.now c.args.i c.args.d (c.loop-m.m + 1)) (sym (ap (λ row. row.items) w.row-is))
      (front_same k s c.args.pairs.now c.args.i c.args.d c.loop-m.m c.loop-m.row.items c.loop-m-test.true c.loop-m.invariant
      (sym c.meets.ensures.meets ∙ w.if-meets.false))
]

pub returns : goal.returns
returns g c = record {
  row = front_all g.row.K c.args.simples.now c.args.pairs.now c.args.i c.args.d c.loop-m.m c.loop-m.row.items
      (omega (arith, c.loop-m-test.false, c.loop-m.auto)) c.loop-m.invariant;
}
