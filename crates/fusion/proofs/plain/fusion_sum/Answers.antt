use Rattle.fusion.proofs.Names.{◌≡◌, ◌<◌, ◌*◌, subst, arith, ap, ◌∙◌, cyclotomic_value, IsTotal, inner_part}
use Rattle.fusion.proofs.plain.fusion_sum.Goals as goal

pub loop-p-init : goal.loop-p-init
loop-p-init g c = c.zero-total.ensures.none_added (inner_part g.row.K c.args.simples.now c.args.i c.args.j c.args.l)

pub returns-in_default : goal.returns-in_default
returns-in_default g c =
    let n = c.args.simples.now.cocycle.group.order in
    record {
      forms = c.in_default.ensures.overflow (inner_part g.row.K c.args.simples.now c.args.i c.args.j c.args.l) c.loop-p.p (n * n)
          (subst (λ m. c.loop-p.p < m * m) c.order-order.ensures.order c.loop-p-test.true) c.loop-p.invariant c.inner_part.ensures.forms;
    }

pub loop-p-preserved : goal.loop-p-preserved
loop-p-preserved g c = c.in-Some.ensures.more (inner_part g.row.K c.args.simples.now c.args.i c.args.j c.args.l) c.loop-p.p c.loop-p.invariant c.inner_part.ensures.forms

pub returns : goal.returns
returns g c =
    let n = c.args.simples.now.cocycle.group.order in
    let all : c.loop-p.p ≡ c.order-order.result * c.order-order.result = omega (arith, c.loop-p-test.false, c.loop-p.auto) in
    record {
      forms = c.sum.ensures.all_added (inner_part g.row.K c.args.simples.now c.args.i c.args.j c.args.l) (n * n)
          (subst (λ p. IsTotal (inner_part g.row.K c.args.simples.now c.args.i c.args.j c.args.l) p (cyclotomic_value g.row.K c.loop-p.total.sum.coefficients) c.loop-p.total.sizes)
          (all ∙ ap (λ m. m * m) c.order-order.ensures.order) c.loop-p.invariant);
    }
