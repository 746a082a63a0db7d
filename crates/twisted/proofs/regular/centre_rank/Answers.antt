use Rattle.twisted.proofs.Names.{[], ◌∷◌, sym, ap, ◌∙◌, arith, length, length-append, passing_below, passing_below-passes, passing_below-fails}
use Rattle.twisted.proofs.Representatives.{is_other_regular}
use Rattle.twisted.proofs.regular.centre_rank.Goals as goal
use Rattle.twisted.proofs.regular.centre_rank.Goals.{then-is_other_regular, else-is_other_regular}

pub loop-p-preserved : goal.loop-p-preserved
loop-p-preserved c =
    let test = is_other_regular c.args.twist.now in
    elim c.if-is_other_regular.branch [
      | then-is_other_regular w ↦
          let more = ap length (passing_below-passes c.loop-p.p test (sym c.is_other_regular.ensures.other ∙ w.if-is_other_regular.true)) in
          record { counted = omega (arith, more, length-append (passing_below c.loop-p.p test) (c.loop-p.p ∷ [])); few = omega arith }
      | else-is_other_regular w ↦
          let same = ap length (passing_below-fails c.loop-p.p test (sym c.is_other_regular.ensures.other ∙ w.if-is_other_regular.false)) in
          record { counted = omega (arith, same); few = omega arith }
    ]
