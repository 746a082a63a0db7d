use Rattle.twisted.proofs.Names.{sym, ◌∙◌, refl, arith, length-append, passing_below-passes, passing_below-fails}
use Rattle.twisted.proofs.Representatives.{is_other_regular}
use Rattle.twisted.proofs.regular.regular_reps.Goals as goal
use Rattle.twisted.proofs.regular.regular_reps.Goals.{then-is_other_regular+in_ok-push-2, else-is_other_regular}

pub loop-p-preserved : goal.loop-p-preserved
loop-p-preserved c =
    let test = is_other_regular c.args.twist.now in
    elim c.if-is_other_regular.branch [
      | then-is_other_regular+in_ok-push-2 w ↦
          let passes = passing_below-passes c.loop-p.p test (sym c.is_other_regular.ensures.other ∙ w.if-is_other_regular.true) in
          record {
            listed = rw (w.places-is, w.in_ok-push-2.ensures.added, c.loop-p.invariant.listed, passes) refl;
            few = rw (w.places-is, w.in_ok-push-2.ensures.added, length-append) (omega arith);
          }
      | else-is_other_regular w ↦
          let fails = passing_below-fails c.loop-p.p test (sym c.is_other_regular.ensures.other ∙ w.if-is_other_regular.false) in
          record { listed = rw (w.places-is, fails) c.loop-p.invariant.listed; few = rw w.places-is (omega arith) }
    ]
