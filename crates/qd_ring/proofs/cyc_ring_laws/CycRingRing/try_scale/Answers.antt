-- The root with exponent e modulo K is the power of x.
use Rattle.qd_ring.proofs.Names.{◌≡◌, ap, subst, ◌∙◌, IfSome, cyclotomic, value_product, cyclotomic_value, root, value_fits}
use Rattle.qd_ring.proofs.CycSums.{scaled_by_power}
use Rattle.qd_ring.proofs.cyc_ring_laws.CycRingRing.try_scale.Goals as goal

pub returns-clause-fits : goal.returns-clause-fits
returns-clause-fits g c =
    let k = g.row.K in
    let u = cyclotomic_value k c.args.a.now.coefficients in
    c.try_times.ensures.fits
    ∙ ap (λ n. value_fits (value_product (cyclotomic k) (root k n) u)) c.new.ensures
    ∙ ap value_fits (scaled_by_power k c.args.self.now.conductor c.args.e u)

pub returns-clause-multiple : goal.returns-clause-multiple
returns-clause-multiple g c =
    let k = g.row.K in
    let u = cyclotomic_value k c.args.a.now.coefficients in
    subst (λ z. IfSome c.try_times.result (λ multiple. cyclotomic_value k multiple.coefficients ≡ z))
    (ap (λ n. value_product (cyclotomic k) (root k n) u) c.new.ensures ∙ scaled_by_power k c.args.self.now.conductor c.args.e u)
    c.try_times.ensures.value
