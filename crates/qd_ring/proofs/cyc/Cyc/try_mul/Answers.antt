-- The product of the sparse forms.
use Rattle.qd_ring.proofs.Names.{◌≡◌, subst, ◌∙◌, ap₂, cyclotomic, product_fits, value_product, cyclotomic_value, IfSome}
use Rattle.qd_ring.proofs.cyc.Cyc.try_mul.Goals as goal

pub returns-clause-fits : goal.returns-clause-fits
returns-clause-fits g c = c.try_mul.ensures.fits ∙ ap₂ product_fits c.of.ensures c.of-2.ensures

pub returns-clause-value : goal.returns-clause-value
returns-clause-value g c =
    subst (λ w. IfSome c.try_mul.result (λ value. cyclotomic_value g.row.K value.coefficients ≡ w))
    (ap₂ (value_product (cyclotomic g.row.K)) c.of.ensures c.of-2.ensures) c.try_mul.ensures.value
