use Rattle.std.proofs.Common.{sym, ◌∙◌}
use Rattle.scan.proofs.Places.{all_below-zero, all_below-step, all_below-fails}
use Rattle.scan.proofs.holds_below.Goals as goal

pub loop-i-init : goal.loop-i-init
loop-i-init g c = λ holds each. all_below-zero holds

pub returns-then-not-test : goal.returns-then-not-test
returns-then-not-test g c =
    record { all = λ holds each. sym (all_below-fails c.args.n c.loop-i.i holds c.loop-i-test.true (sym (each c.loop-i.i c.test.result c.loop-i-test.true c.test.ensures) ∙ c.if-not-test.true)) }

pub loop-i-preserved : goal.loop-i-preserved
loop-i-preserved g c =
    λ holds each. all_below-step c.loop-i.i holds (c.loop-i.invariant holds each) (sym (each c.loop-i.i c.test.result c.loop-i-test.true c.test.ensures) ∙ c.if-not-test.false)
