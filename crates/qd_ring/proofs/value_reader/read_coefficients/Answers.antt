use Rattle.qd_ring.proofs.Names.{rules, ◌<◌, arith, length, to_z-of_z, SFits}
use Rattle.std.specs.Int.{w128}
use Rattle.qd_ring.proofs.ReadingSteps.{rest_read, term_longer, read_term_more, read_low, read_high, read_no_term, read_all, read_empty, read_zeros}
use Rattle.qd_ring.proofs.value_reader.read_coefficients.Goals.{then-term-next-via-then-term-next, then-term-next-via-else-term-next+then-phi-term}
use Rattle.qd_ring.proofs.value_reader.read_coefficients.Goals as goal

pub returns-in_default-clause-none : goal.returns-in_default-clause-none
returns-in_default-clause-none c =
    read_no_term c.args.phi c.args.text.now c.loop-at.next c.loop-at.at c.loop-at.coefficients c.requires c.loop-at.invariant (rest_read _ c.loop-at.at c.args.text.now _ c.in_default.ensures.term) c.loop-at-test.true

pub returns-then-term-next-clause-none : goal.returns-then-term-next-clause-none
returns-then-term-next-clause-none c = elim c.then-term-next.branch [
  | then-term-next-via-then-term-next w ↦
      read_low c.args.phi c.args.text.now c.loop-at.next c.loop-at.at c.loop-at.coefficients c.requires c.loop-at.invariant c.in-Some.term (rest_read _ c.loop-at.at c.args.text.now _ c.in-Some.ensures.term) w.if-term-next.true
  | then-term-next-via-else-term-next+then-phi-term w ↦
      read_high c.args.phi c.args.text.now c.loop-at.next c.loop-at.at c.loop-at.coefficients c.requires c.loop-at.invariant c.in-Some.term (rest_read _ c.loop-at.at c.args.text.now _ c.in-Some.ensures.term) w.if-phi-term.true
]

pub loop-at-smaller : goal.loop-at-smaller
loop-at-smaller c =
    let longer = term_longer c.args.phi c.args.text.now c.loop-at.next c.loop-at.at c.loop-at.coefficients c.requires c.loop-at.invariant c.in-Some.term (rest_read _ c.loop-at.at c.args.text.now _ c.in-Some.ensures.term) in
    let more : c.loop-at.at < length c.args.text.now = c.loop-at-test.true in
    omega (arith, longer, more)

pub loop-at-preserved : goal.loop-at-preserved
loop-at-preserved c =
    let fits : SFits w128 c.in-Some.term.coefficient = search rules in
    rw (to_z-of_z w128 c.in-Some.term.coefficient fits)
    (read_term_more c.args.phi c.args.text.now c.loop-at.next c.loop-at.at c.loop-at.coefficients c.requires c.loop-at.invariant c.in-Some.term (rest_read _ c.loop-at.at c.args.text.now _ c.in-Some.ensures.term)
    c.if-term-next.false c.if-phi-term.false (search rules))

pub returns-then-at-eq0-clause-none : goal.returns-then-at-eq0-clause-none
returns-then-at-eq0-clause-none c =
    read_empty c.args.phi c.args.text.now c.loop-at.next c.loop-at.at c.loop-at.coefficients c.requires c.loop-at.invariant c.if-at-eq0.true (search rules)

pub returns-else-at-eq0-clause-some : goal.returns-else-at-eq0-clause-some
returns-else-at-eq0-clause-some c =
    read_all c.args.phi c.args.text.now c.loop-at.next c.loop-at.at c.loop-at.coefficients c.requires c.loop-at.invariant (omega (arith, c.if-at-eq0.false)) (search rules)

pub returns-else-at-eq0-clause-zeros : goal.returns-else-at-eq0-clause-zeros
returns-else-at-eq0-clause-zeros c =
    read_zeros c.args.phi c.args.text.now c.loop-at.next c.loop-at.at c.loop-at.coefficients c.requires c.loop-at.invariant
