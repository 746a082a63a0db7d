-- The image is formed, and fits where its size does.
use Rattle.qd_ring.proofs.Names.{◌-◌, ap, ◌∙◌, cyclotomic_value, value_fits}
use Rattle.qd_ring.proofs.CycLaws.{image_alone}
use Rattle.qd_ring.proofs.cyc.Cyc.try_conj.Goals as goal

pub returns : goal.returns
returns g c =
    let a = c.args.self.now in
    let is = c.image.ensures.value ∙ image_alone g.row.K a.conductor (g.row.K - 1) (cyclotomic_value g.row.K a.coefficients) in
    record { fits = c.fitted.ensures.fits ∙ ap value_fits is; value = rw is at c.fitted.ensures.value }
