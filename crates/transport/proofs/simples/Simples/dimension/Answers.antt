use Rattle.transport.proofs.Names.{◌≤◌, subst, sym, ap, arith, SimplesOver, AreSimples}
use Rattle.transport.proofs.Listed.{degree_at_most, product_small}
use Rattle.transport.proofs.simples.Simples.dimension.Goals as goal

pub overflow_mul-result : goal.overflow_mul-result
overflow_mul-result g c =
    let k = g.row.K in
    let S = subst (λ (s : SimplesOver). AreSimples k s) c.self.view_is c.self.invariant.simples in
    let degree : c.degree.result ≤ 60 = subst (λ n. n ≤ 60) (sym c.degree.ensures.degree) (degree_at_most k c.args.self.now S c.args.i c.requires.i_below) in
    let small = c.self.invariant.simples.cocycle.cochain.small.to_sixty in
    let group = ap (λ t. t.order) c.self.invariant.classes_are in
    let size : c.size.result ≤ 60 = omega (arith, c.size.ensures.at_most_order, group, small) in
    let product = product_small c.size.result c.degree.result size degree in
    omega (arith, product)
