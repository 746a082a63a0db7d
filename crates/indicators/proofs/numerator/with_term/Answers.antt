use Rattle.indicators.proofs.Names.{◌∙◌, ◌/◌, ◌%◌, ℕ, length, sym, subst, cyclotomic_value, indicator_term, term_at}
use Rattle.indicators.proofs.FormedLaws.{IsNought, nought_term, total_nought}
use Rattle.indicators.proofs.numerator.with_term.Goals as goal

pub returns-then-number-eq0-clause-more : goal.returns-then-number-eq0-clause-more
returns-then-number-eq0-clause-more g c =
    let k = g.row.K in
    let dims = c.args.dims.now in
    let twists = c.args.twists.now in
    let i = c.args.q / length dims in
    let j = c.args.q % length dims in
    total_nought (term_at k c.args.plane.now dims twists c.args.m) c.args.q (cyclotomic_value k c.args.total.sum.coefficients) c.args.total.sizes c.requires.total
    (subst (λ (number : ℕ). IsNought (indicator_term k dims twists c.args.m number i j)) (sym c.if-number-eq0.true ∙ c.at-number.ensures.number) (nought_term k dims twists c.args.m i j))
