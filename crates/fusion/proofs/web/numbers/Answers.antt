use Rattle.fusion.proofs.Names.{◌≡◌, [], None, ap, ◌∙◌, subst, arith, first, first-zero, first_none-step, count_of, count, simple_fault}
use Rattle.fusion.proofs.Fronts.{front_none, front_all}
use Rattle.fusion.proofs.Rules.{are_rule, are_small}
use Rattle.fusion.proofs.web.numbers.Goals as goal

pub loop-i-init : goal.loop-i-init
loop-i-init g c =
    let k = g.row.K in
    let s = c.args.simples.now in (
      front_none k s c.in_ok-web.web (c.in_ok-web.ensures.empty ∙ ap (λ n. record { simples = n; entries = [] }) c.count-count.ensures.count),
      first-zero (simple_fault k s),
    )

pub loop-i-preserved : goal.loop-i-preserved
loop-i-preserved g c = (
  c.in_ok-add_simple.ensures.front,
  first_none-step c.loop-i.i (simple_fault g.row.K c.args.simples.now) c.loop-i.invariant.1 c.in_ok-add_simple.ensures.whole,
)

pub returns-clause-numbers : goal.returns-clause-numbers
returns-clause-numbers g c =
    let all : c.loop-i.i ≡ count g.row.K c.args.simples.now = omega (arith, c.loop-i-test.false, c.loop-i.auto, c.count-count.ensures.count) in
    record { numbers = front_all g.row.K c.args.simples.now c.loop-i.web c.loop-i.i all c.loop-i.invariant.0 }

pub returns-clause-small : goal.returns-clause-small
returns-clause-small g c =
    let k = g.row.K in
    let s = c.args.simples.now in
    let all : c.loop-i.i ≡ count k s = omega (arith, c.loop-i-test.false, c.loop-i.auto, c.count-count.ensures.count) in
    are_small k s c.count-count.ensures.simples (subst (λ n. first n (simple_fault k s) ≡ None) all c.loop-i.invariant.1) (count_of c.loop-i.web)
    (front_all k s c.loop-i.web c.loop-i.i all c.loop-i.invariant.0) c.order-order.ensures.small.to_sixty

pub returns-clause-rule : goal.returns-clause-rule
returns-clause-rule g c =
    let k = g.row.K in
    let s = c.args.simples.now in
    let all : c.loop-i.i ≡ count k s = omega (arith, c.loop-i-test.false, c.loop-i.auto, c.count-count.ensures.count) in
    are_rule k s c.count-count.ensures.simples (subst (λ n. first n (simple_fault k s) ≡ None) all c.loop-i.invariant.1) (count_of c.loop-i.web)
    (front_all k s c.loop-i.web c.loop-i.i all c.loop-i.invariant.0)
