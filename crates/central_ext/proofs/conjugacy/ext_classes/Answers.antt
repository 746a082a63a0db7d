use Rattle.central_ext.proofs.Names.{ap, arith, first_of_class, get_or, pair_count, refl, sym, ◌*◌, ◌<◌, ◌∙◌, ◌≡◌}
use Rattle.central_ext.proofs.ClassNumbers.{numbered_none, numbered_old, numbered_new}
use Rattle.central_ext.proofs.conjugacy.ext_classes.Goals as goal
use Rattle.central_ext.proofs.conjugacy.ext_classes.Goals.{then-first-t+in_ok-push, else-first-t+in_ok-push-2}

pub loop-t-init : goal.loop-t-init
loop-t-init c = rw c.empty-numbers.ensures.empty (numbered_none c.args.twist.now)

pub loop-t-preserved : goal.loop-t-preserved
loop-t-preserved c =
    let s = c.args.twist.now in
    let all : c.size.result * c.modulus.result ≡ pair_count s = rw (c.size.ensures.size, c.modulus.ensures.modulus) refl in
    let below : c.loop-t.t < pair_count s = omega (arith, all) in
    elim c.if-first-t.branch [
      | then-first-t+in_ok-push w ↦
          let less : first_of_class s c.loop-t.t < c.loop-t.t = omega (arith, w.if-first-t.true, c.first_of_class-first.ensures.first) in
          let number : w.at.result ≡ get_or c.loop-t.numbers (first_of_class s c.loop-t.t) 0 =
          w.at.ensures.number ∙ ap (λ i. get_or c.loop-t.numbers i 0) c.first_of_class-first.ensures.first in
          rw (w.numbers-is, w.next-is, w.in_ok-push.ensures.added)
          (numbered_old s c.first_of_class-first.ensures.twist c.loop-t.t c.loop-t.next w.at.result c.loop-t.numbers below c.loop-t.invariant less number)
      | else-first-t+in_ok-push-2 w ↦
          let itself : first_of_class s c.loop-t.t ≡ c.loop-t.t = sym c.first_of_class-first.ensures.first ∙ omega (arith, w.if-first-t.false, c.first_of_class-first.ensures.at_most) in
          rw (w.numbers-is, w.next-is, w.in_ok-push-2.ensures.added)
          (numbered_new s c.first_of_class-first.ensures.twist c.loop-t.t c.loop-t.next c.loop-t.numbers c.loop-t.invariant itself)
    ]
