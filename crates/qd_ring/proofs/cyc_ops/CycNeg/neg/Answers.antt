-- A negative has the size of the value, so it fits.
use Rattle.qd_ring.proofs.Names.{◌≡◌, true, ap, ◌∙◌, rules, cyclotomic, value_sum, value_negative, cyclotomic_value, value_fits}
use Rattle.qd_ring.proofs.ProductLaws.{nought_sum}
use Rattle.qd_ring.proofs.CycSums.{negative_fits}
use Rattle.qd_ring.proofs.cyc_ops.CycNeg.neg.Goals as goal

pub unwrap-requires : goal.unwrap-requires
unwrap-requires g c =
    let a = c.args.self in
    let minus = value_negative (cyclotomic_value g.row.K a.coefficients) in
    let fits : value_fits (value_sum (cyclotomic_value g.row.K c.zero-zero.result.coefficients) minus) ≡ true =
    ap value_fits (ap (λ z. value_sum z minus) c.zero-zero.ensures ∙ nought_sum (cyclotomic g.row.K) minus)
    ∙ negative_fits g.row.K a.conductor a.coefficients a.array a.small in
    search rules

pub returns : goal.returns
returns g c =
    let minus = value_negative (cyclotomic_value g.row.K c.args.self.coefficients) in
    let got : cyclotomic_value g.row.K c.unwrap.result.coefficients ≡ value_sum (cyclotomic_value g.row.K c.zero-zero.result.coefficients) minus = search rules in
    got ∙ ap (λ z. value_sum z minus) c.zero-zero.ensures ∙ nought_sum (cyclotomic g.row.K) minus
