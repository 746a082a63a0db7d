-- The image is formed, and fits where its size does.
use Rattle.qd_ring.proofs.Names.{ap, ◌∙◌, cyclotomic_value, value_fits}
use Rattle.qd_ring.proofs.CycLaws.{image_modulo}
use Rattle.qd_ring.proofs.cyc.Cyc.try_galois.Goals as goal

pub returns : goal.returns
returns g c =
    let a = c.args.self.now in
    let is = c.image.ensures.value ∙ image_modulo g.row.K a.conductor c.args.t (cyclotomic_value g.row.K a.coefficients) in
    record { fits = c.fitted.ensures.fits ∙ ap value_fits is; value = rw is at c.fitted.ensures.value }
