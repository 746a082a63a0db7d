-- The sizes decide, and what they let through fits.
use Rattle.qd_ring.proofs.Names.{◌*◌, sym, ◌∙◌, arith, ap₂, cyclotomic, value_product, product_fits, product_that_fits, value_of_terms, total_of_terms}
use Rattle.qd_ring.proofs.CycLaws.{small_value, fits_by_sizes, unfit_by_sizes}
use Rattle.qd_ring.proofs.SparseLaws.{sparse_room}
use Rattle.qd_ring.proofs.terms.Terms.try_mul.Goals as goal

pub product-requires-clause-room : goal.product-requires-clause-room
product-requires-clause-room g c =
    let room = sparse_room g.row.K c.self.inside.terms.items c.b.inside.terms.items c.self.inside.size c.b.inside.size c.self.inside.total c.b.inside.total c.self.invariant c.b.invariant
    (omega (arith, c.in-Some.ensures.1, c.if-sizes-lt-PRODUCT_LIMIT.true)) in
    omega (arith, room, ap₂ (λ x y. total_of_terms x * total_of_terms y) c.as_slice.ensures.value c.as_slice-in-Some.ensures.value)

pub invariant_of-result : goal.invariant_of-result
invariant_of-result g c =
    let k = g.row.K in
    let u = value_of_terms k c.self.inside.terms.items in
    let v = value_of_terms k c.b.inside.terms.items in
    let entry = c.self.invariant.conductor in
    let is = c.product.ensures.value ∙ ap₂ (λ x y. value_product (cyclotomic k) (value_of_terms k x) (value_of_terms k y)) c.as_slice.ensures.value c.as_slice-in-Some.ensures.value in
    record {
      conductor = entry;
      array = c.product.ensures.array;
      small = small_value k entry c.product.result c.product.ensures.array (value_product (cyclotomic k) u v) is (product_that_fits k entry u v
          (fits_by_sizes k u v c.self.inside.size c.b.inside.size c.self.invariant.size_is c.b.invariant.size_is (omega (arith, c.in-Some.ensures.1, c.if-sizes-lt-PRODUCT_LIMIT.true))));
    }

pub returns-in-Some-clause-fits : goal.returns-in-Some-clause-fits
returns-in-Some-clause-fits g c =
    let k = g.row.K in
    let u = value_of_terms k c.self.inside.terms.items in
    let v = value_of_terms k c.b.inside.terms.items in
    sym (ap₂ (λ x y. product_fits (value_of_terms k x) (value_of_terms k y)) (sym c.self.view_is) (sym c.b.view_is)
    ∙ fits_by_sizes k u v c.self.inside.size c.b.inside.size c.self.invariant.size_is c.b.invariant.size_is (omega (arith, c.in-Some.ensures.1, c.if-sizes-lt-PRODUCT_LIMIT.true)))

pub returns-in-Some-clause-value : goal.returns-in-Some-clause-value
returns-in-Some-clause-value g c =
    let k = g.row.K in
    c.product.ensures.value
    ∙ ap₂ (λ x y. value_product (cyclotomic k) (value_of_terms k x) (value_of_terms k y)) (c.as_slice.ensures.value ∙ c.self.view_is) (c.as_slice-in-Some.ensures.value ∙ c.b.view_is)

pub returns-in_default-clause-fits : goal.returns-in_default-clause-fits
returns-in_default-clause-fits g c =
    let k = g.row.K in
    let u = value_of_terms k c.self.inside.terms.items in
    let v = value_of_terms k c.b.inside.terms.items in
    sym (ap₂ (λ x y. product_fits (value_of_terms k x) (value_of_terms k y)) (sym c.self.view_is) (sym c.b.view_is)
    ∙ unfit_by_sizes k u v c.self.inside.size c.b.inside.size c.self.invariant.size_is c.b.invariant.size_is (omega (arith, c.in-Some.ensures.1, c.if-sizes-lt-PRODUCT_LIMIT.false)))

pub returns-in_default-2-clause-fits : goal.returns-in_default-2-clause-fits
returns-in_default-2-clause-fits g c =
    let k = g.row.K in
    let u = value_of_terms k c.self.inside.terms.items in
    let v = value_of_terms k c.b.inside.terms.items in
    sym (ap₂ (λ x y. product_fits (value_of_terms k x) (value_of_terms k y)) (sym c.self.view_is) (sym c.b.view_is)
    ∙ unfit_by_sizes k u v c.self.inside.size c.b.inside.size c.self.invariant.size_is c.b.invariant.size_is (omega (arith, c.in_default.ensures)))
