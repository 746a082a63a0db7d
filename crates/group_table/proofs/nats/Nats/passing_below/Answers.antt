use Rattle.std.proofs.Common.{◌∙◌, ◌++◌, ◌∷◌, [], sym, ap, arith, length-append}
use Rattle.group_table.proofs.Numbers.{passing_below-zero, passing_below-passes, passing_below-fails}
use Rattle.group_table.proofs.nats.Nats.passing_below.Goals as goal
use Rattle.group_table.proofs.nats.Nats.passing_below.Goals.{then-test+in_ok-push, else-test}

pub loop-i-init : goal.loop-i-init
loop-i-init g c = record {
  count = rw c.empty-numbers.ensures.empty (omega arith);
  kept = λ passes each. c.empty-numbers.ensures.empty ∙ sym (passing_below-zero passes);
}

pub loop-i-preserved : goal.loop-i-preserved
loop-i-preserved g c =
    elim c.if-test.branch [
      | then-test+in_ok-push w ↦ record {
        count = rw (w.numbers-is, w.in_ok-push.ensures.added) (simp length-append (omega arith));
        kept = λ passes each.
            w.numbers-is ∙ w.in_ok-push.ensures.added
            ∙ ap (λ front. front ++ c.loop-i.i ∷ []) (c.loop-i.invariant.kept passes each)
            ∙ sym (passing_below-passes c.loop-i.i passes (sym (each c.loop-i.i c.test.result c.loop-i-test.true c.test.ensures) ∙ w.if-test.true));
      }
      | else-test w ↦ record {
        count = rw w.numbers-is (omega arith);
        kept = λ passes each.
            w.numbers-is ∙ c.loop-i.invariant.kept passes each
            ∙ sym (passing_below-fails c.loop-i.i passes (sym (each c.loop-i.i c.test.result c.loop-i-test.true c.test.ensures) ∙ w.if-test.false));
      }
    ]
