-- The multiple of 1 by the root.
use Rattle.qd_ring.proofs.Names.{ap, ◌∙◌, arith, cyclotomic, value_product, root, product_one, conductor_bounds}
use Rattle.qd_ring.proofs.CycLaws.{times_alone, small_value, root_fits}
use Rattle.qd_ring.proofs.cyc.Cyc.from_root.Goals as goal

pub image-requires-clause-stride : goal.image-requires-clause-stride
image-requires-clause-stride g c =
    let bounds = conductor_bounds g.row.K c.args.r.conductor in
    omega (arith, bounds.1, bounds.3)

pub invariant_of-result : goal.invariant_of-result
invariant_of-result g c =
    let k = g.row.K in
    let entry = c.args.r.conductor in
    let e = c.exponent.result in
    let is = c.image.ensures.value ∙ times_alone k entry e _ ∙ ap (value_product (cyclotomic k) (root k e)) c.one-one.ensures ∙ product_one (cyclotomic k) (root k e) in
    record {
      conductor = entry;
      array = c.image.ensures.array;
      small = small_value k entry c.image.result c.image.ensures.array (root k e) is (root_fits k entry e);
    }

pub returns : goal.returns
returns g c =
    let k = g.row.K in
    let e = c.exponent.result in
    c.image.ensures.value ∙ times_alone k c.args.r.conductor e _ ∙ ap (value_product (cyclotomic k) (root k e)) c.one-one.ensures
    ∙ product_one (cyclotomic k) (root k e) ∙ ap (root k) c.exponent.ensures.exponent
