use Rattle.std.proofs.Common.{sym, ◌∙◌}
use Rattle.scan.proofs.Places.{first-zero, first_none-step, first_found}
use Rattle.scan.proofs.first_below.Goals as goal

pub loop-i-init : goal.loop-i-init
loop-i-init g c = λ found each. first-zero found

pub loop-i-preserved : goal.loop-i-preserved
loop-i-preserved g c =
    λ found each. first_none-step c.loop-i.i found (c.loop-i.invariant found each) (sym (each c.loop-i.i c.at.result c.loop-i-test.true c.at.ensures) ∙ c.in_default.is)

pub returns-in-loop-i : goal.returns-in-loop-i
returns-in-loop-i g c =
    record { least = λ found each. sym (first_found c.args.n c.loop-i.i found c.in-Some.fault c.loop-i-test.true (c.loop-i.invariant found each) (sym (each c.loop-i.i c.at.result c.loop-i-test.true c.at.ensures) ∙ c.in-Some.is)) }
