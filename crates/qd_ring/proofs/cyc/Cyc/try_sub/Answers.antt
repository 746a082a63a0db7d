-- The array is that of the value, and fits where its size does.
use Rattle.qd_ring.proofs.Names.{ap, lit<, ◌∙◌, negsuc, cyclotomic_value, is_array, value_fits}
use Rattle.qd_ring.proofs.CycSums.{combined_array, difference_value}
use Rattle.qd_ring.proofs.cyc.Cyc.try_sub.Goals as goal

pub fitted-requires : goal.fitted-requires
fitted-requires g c =
    let a = c.args.self.now in
    let b = c.args.b.now in
    (lit< tt, (a.conductor, ap (is_array g.row.K) c.combine.ensures ∙ combined_array g.row.K a.conductor a.coefficients b.coefficients a.array b.array (negsuc 0)))

pub returns : goal.returns
returns g c =
    let is = ap (cyclotomic_value g.row.K) c.combine.ensures ∙ difference_value g.row.K c.args.self.now.coefficients c.args.b.now.coefficients in
    record { fits = c.fitted.ensures.fits ∙ ap value_fits is; value = rw is at c.fitted.ensures.value }
