-- What is added is the product times the root, and the bound grows by the product of the totals.
use Rattle.qd_ring.proofs.Names.{◌≡◌, ◌+◌, ◌*◌, ap, sym, ◌∙◌, arith, length, ap₂, cyclotomic_value, value_sum, conductor_bounds, value_of_terms, total_of_terms, turned_product, folded_value}
use Rattle.qd_ring.proofs.FoldingLaws.{folded_more, folded_same, buffer_front, buffer_value}
use Rattle.qd_ring.proofs.folded.Folded.add_product.Goals as goal

pub slice_bounds-add_product-end : goal.slice_bounds-add_product-end
slice_bounds-add_product-end g c = omega (arith, (conductor_bounds g.row.K c.self.invariant.conductor).0)

pub returns-clause-listed : goal.returns-clause-listed
returns-clause-listed g c = λ there term i before formed.
    let k = g.row.K in
    let old = c.args.self.now in
    let e = c.args.root.exponent in
    let u = value_of_terms k c.args.a.now in
    let v = value_of_terms k c.args.b.now in
    let entry = c.self.invariant.conductor in
    let new = c.add_product.new.buffer in
    let count : k ≡ length new = sym (c.add_product.auto.buffer ∙ buffer_front k entry c.self.inside.coefficients c.self.invariant.size) in
    let value : cyclotomic_value k new ≡ value_sum (folded_value k old) (turned_product k e u v) =
    c.add_product.ensures.value
    ∙ ap₂ (λ f r. value_sum (folded_value k f) (turned_product k r (value_of_terms k c.terms.result.now) (value_of_terms k c.terms-2.result.now))) c.self.view_is c.exponent.ensures.exponent
    ∙ ap₂ (λ x y. value_sum (folded_value k old) (turned_product k e (value_of_terms k x) (value_of_terms k y))) c.terms.ensures.terms c.terms-2.ensures.terms in
    let bound : c.self.inside.bound + c.total-a_total.result * c.total-b_total.result ≡ old.bound + total_of_terms c.args.a.now * total_of_terms c.args.b.now =
    ap₂ (λ x y. x + y) (ap (λ f. f.bound) c.self.view_is) (ap₂ (λ x y. x * y) c.total-a_total.ensures c.total-b_total.ensures) in
    folded_same k term (i + 1) (value_sum (folded_value k old) (turned_product k e u v)) _ (old.bound + total_of_terms c.args.a.now * total_of_terms c.args.b.now) _
    (sym (buffer_value k new _ count ∙ value)) (sym bound)
    (folded_more k term entry i (folded_value k old) old.bound e c.args.a.now c.args.b.now (omega (arith, bound, c.if-bound-ge-BOUND_LIMIT.false)) before formed)
