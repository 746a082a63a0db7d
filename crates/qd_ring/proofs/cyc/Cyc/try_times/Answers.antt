-- The image is formed, and fits where its size does.
use Rattle.qd_ring.proofs.Names.{ap, ◌∙◌, arith, cyclotomic, value_product, cyclotomic_value, root, value_fits, conductor_bounds}
use Rattle.qd_ring.proofs.CycLaws.{times_alone}
use Rattle.qd_ring.proofs.cyc.Cyc.try_times.Goals as goal

pub image-requires-clause-stride : goal.image-requires-clause-stride
image-requires-clause-stride g c =
    let bounds = conductor_bounds g.row.K c.args.self.now.conductor in
    omega (arith, bounds.1, bounds.3)

pub returns : goal.returns
returns g c =
    let k = g.row.K in
    let a = c.args.self.now in
    let u = cyclotomic_value k a.coefficients in
    let is = c.image.ensures.value ∙ times_alone k a.conductor c.exponent.result u ∙ ap (λ e. value_product (cyclotomic k) (root k e) u) c.exponent.ensures.exponent in
    record { fits = c.fitted.ensures.fits ∙ ap value_fits is; value = rw is at c.fitted.ensures.value }
