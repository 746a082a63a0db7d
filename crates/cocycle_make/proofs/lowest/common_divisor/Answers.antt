use Rattle.cocycle_make.proofs.Names.{◌≡◌, sym, ap, ◌∙◌, arith, greatest, divides_both, common_divisor}
use Rattle.cocycle_make.proofs.Divisor.{greatest-zero, greatest-passes, greatest-fails, divisor}
use Rattle.cocycle_make.proofs.lowest.common_divisor.Goals as goal
use Rattle.cocycle_make.proofs.lowest.common_divisor.Goals.{then-divides_both, else-divides_both}

pub loop-i-init : goal.loop-i-init
loop-i-init c = sym (greatest-zero (divides_both c.args.n c.args.p))

pub loop-i-preserved : goal.loop-i-preserved
loop-i-preserved c =
    let test = divides_both c.args.n c.args.p in
    elim c.if-divides_both.branch [
      | then-divides_both w ↦ w.greatest-is ∙ sym (greatest-passes c.loop-i.i test (sym c.divides_both.ensures.both ∙ w.if-divides_both.true))
      | else-divides_both w ↦ w.greatest-is ∙ c.loop-i.invariant ∙ sym (greatest-fails c.loop-i.i test (sym c.divides_both.ensures.both ∙ w.if-divides_both.false))
    ]

pub returns : goal.returns
returns c =
    let here : c.loop-i.greatest ≡ common_divisor c.args.n c.args.p = c.loop-i.invariant ∙ ap (λ k. greatest k (divides_both c.args.n c.args.p)) (let end : c.loop-i.i ≡ c.args.n = omega arith in end) in
    let d = divisor c.args.n c.args.p c.requires.positive in
    record { greatest = here; from_one = omega (arith, here, d.positive); to_most = omega (arith, here, d.most) }
