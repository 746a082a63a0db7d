use Rattle.modular_st.proofs.Names.{◌≡◌, ◌<◌, ◌*◌, subst, arith, ap, ◌∙◌, cyclotomic_value, IsTotal, s_term}
use Rattle.modular_st.proofs.numerator.sum.Goals as goal

pub loop-p-init : goal.loop-p-init
loop-p-init g c = c.zero-total.ensures.none_added (s_term g.row.K c.args.simples.now c.args.i c.args.j)

pub returns-in_default : goal.returns-in_default
returns-in_default g c =
    let n = c.args.simples.now.cocycle.group.order in
    record {
      forms = c.in_default.ensures.overflow (s_term g.row.K c.args.simples.now c.args.i c.args.j) c.loop-p.p (n * n)
          (subst (λ m. c.loop-p.p < m * m) c.order-order.ensures.order c.loop-p-test.true) c.loop-p.invariant c.term.ensures.forms;
    }

pub loop-p-preserved : goal.loop-p-preserved
loop-p-preserved g c = c.in-Some.ensures.more (s_term g.row.K c.args.simples.now c.args.i c.args.j) c.loop-p.p c.loop-p.invariant c.term.ensures.forms

pub returns : goal.returns
returns g c =
    let n = c.args.simples.now.cocycle.group.order in
    let all : c.loop-p.p ≡ c.order-order.result * c.order-order.result = omega (arith, c.loop-p-test.false, c.loop-p.auto) in
    record {
      forms = c.sum.ensures.all_added (s_term g.row.K c.args.simples.now c.args.i c.args.j) (n * n)
          (subst (λ p. IsTotal (s_term g.row.K c.args.simples.now c.args.i c.args.j) p (cyclotomic_value g.row.K c.loop-p.total.sum.coefficients) c.loop-p.total.sizes)
          (all ∙ ap (λ m. m * m) c.order-order.ensures.order) c.loop-p.invariant);
    }
