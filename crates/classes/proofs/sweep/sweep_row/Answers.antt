use Rattle.std.proofs.Common.{◌≡◌, ◌<◌, length, sym, ap, ◌∙◌, arith}
use Rattle.classes.proofs.Rows.{reached_before, row_begins, row_ends, pair_reached}
use Rattle.classes.proofs.sweep.sweep_row.Goals as goal

pub loop-k-init : goal.loop-k-init
loop-k-init c = λ g below. c.requires.lower g below ∙ sym (row_begins c.args.group.now c.args.a g)

pub loop-k-preserved : goal.loop-k-preserved
loop-k-preserved c = λ g below.
    let in_range : c.conjugate-g.result < length c.loop-k.reaches = omega (arith, c.conjugate-g.ensures.below, c.requires.count, c.loop-k.auto.reaches) in
    rw c.or.ensures (pair_reached c.args.group.now c.args.a c.loop-k.k c.conjugate-g.result c.loop-k.reaches g c.conjugate-g.ensures.conjugate in_range (c.loop-k.invariant g below))

pub returns : goal.returns
returns c = record {
  reached = λ g below.
      let whole : c.loop-k.k ≡ c.args.group.now.order = omega (arith, c.order-k-end.ensures.order) in
      c.loop-k.invariant g below ∙ ap (λ k. reached_before c.args.group.now c.args.a k g) whole ∙ row_ends c.args.group.now c.args.a g;
}
