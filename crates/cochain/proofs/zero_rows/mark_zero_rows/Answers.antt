use Rattle.std.proofs.Common.{◌≡◌, ◌*◌, ap, ◌∙◌, length, arith, length-append}
use Rattle.cochain.proofs.ZeroRows.{marks_more, marks_of}
use Rattle.cochain.proofs.zero_rows.mark_zero_rows.Goals as goal

pub loop-i-preserved : goal.loop-i-preserved
loop-i-preserved c =
    let n : c.order-n.result ≡ c.args.w.now.group.order = c.order-n.ensures.order ∙ ap (λ t. t.order) c.group.ensures.group in
    let zero = c.is_zero_row.ensures.zero in
    record {
      count = rw c.in_ok-push.ensures.items (simp length-append (omega arith));
      each = rw n
          (marks_more c.args.w.now c.loop-i.i _ c.loop-i.marks.items _ c.in_ok-push.ensures.items c.loop-i.invariant.count (rw n at zero)
          (rw n at c.loop-i.invariant.each));
    }

pub returns : goal.returns
returns c =
    let n : c.order-n.result ≡ c.args.w.now.group.order = c.order-n.ensures.order ∙ ap (λ t. t.order) c.group.ensures.group in
    let end : c.loop-i.i ≡ c.order-n.result * c.order-n.result = omega arith in
    let long : length c.loop-i.marks.items ≡ c.order-n.result * c.order-n.result = c.loop-i.invariant.count ∙ end in
    let each = rw end at c.loop-i.invariant.each in
    record { marks = marks_of c.args.w.now c.loop-i.marks.items (rw n at long) (rw n at each) }
