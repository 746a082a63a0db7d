use Rattle.qd_ring.proofs.Names.{◌∙◌, arith}
use Rattle.qd_ring.proofs.ValueTextLaws.{value_of_none, value_of_some}
use Rattle.qd_ring.proofs.value_text.append_value.Goals as goal

pub returns-in_ok-push-clause-added : goal.returns-in_ok-push-clause-added
returns-in_ok-push-clause-added c =
    c.in_ok-push.ensures.items ∙ value_of_none c.args.out.now.items c.append_terms.new.out.items c.args.coefficients.now c.in_ok-append_terms.ensures.added (omega (arith, c.if-len-start.true, c.len.ensures, c.len-start.ensures, c.append_terms.new.out.ok.0, c.args.out.now.ok.0))

pub returns-else-len-start-clause-added : goal.returns-else-len-start-clause-added
returns-else-len-start-clause-added c = value_of_some c.args.out.now.items c.append_terms.new.out.items c.args.coefficients.now c.in_ok-append_terms.ensures.added (λ h. c.if-len-start.false (omega (arith, h, c.len.ensures, c.len-start.ensures, c.append_terms.new.out.ok.0, c.args.out.now.ok.0)))
