use Rattle.std.proofs.Common.{◌≡◌, ◌∙◌, length, ap, arith}
use Rattle.qd_doc.proofs.TermLaws.{below, below_all, longer, kept_on, power_added}
use Rattle.qd_doc.proofs.term.push_terms.Goals as goal

pub loop-power-preserved : goal.loop-power-preserved
loop-power-preserved c =
    let old = c.loop-power.terms.items in
    let new = c.push_term.new.terms.items in
    let great = c.loop-power.great.items in
    let more = c.push_term.new.great.items in
    record {
      kept = kept_on c.args.terms.now.items old new c.loop-power.invariant.kept c.push_term.ensures.kept;
      great_kept = kept_on c.args.great.now.items great more c.loop-power.invariant.great_kept c.push_term.ensures.great_kept;
      each = c.push_term.ensures.each c.loop-power.invariant.each;
      value = power_added (length c.args.terms.now.items) old new great more c.args.coefficients.now c.loop-power.power (longer c.args.terms.now.items old old c.loop-power.invariant.kept) c.push_term.ensures.great_kept c.loop-power.invariant.each c.requires.all c.loop-power-test.true (c.in_ok-push_term.ensures {u = tt}).term c.loop-power.invariant.value;
    }

pub returns-clause-value : goal.returns-clause-value
returns-clause-value c =
    let cs = c.args.coefficients.now in
    let end : c.loop-power.power ≡ 42 = omega arith in
    c.loop-power.invariant.value ∙ ap (below cs) end ∙ below_all cs c.requires.all
