use Rattle.std.proofs.Common.{◌∙◌, sym, arith}
use Rattle.dixon_split.proofs.Quotients.{place_found, no_place, quotient_acts, nought_acts}
use Rattle.dixon_split.proofs.multipliers.value_of.Goals as goal

pub image_at-requires-clause-k_below : goal.image_at-requires-clause-k_below
image_at-requires-clause-k_below c = (place_found c.args.algebra.now.rank c.args.e.now c.in-Some.k (sym c.first_place.ensures.first ∙ c.in-Some.is)).0

pub bounds-e-k : goal.bounds-e-k
bounds-e-k c =
    let below = (place_found c.args.algebra.now.rank c.args.e.now c.in-Some.k (sym c.first_place.ensures.first ∙ c.in-Some.is)).0 in
    let count = c.requires.element.count in
    omega arith

pub returns-in-Some-clause-acts : goal.returns-in-Some-clause-acts
returns-in-Some-clause-acts c = λ Z H acts.
    let place = place_found c.args.algebra.now.rank c.args.e.now c.in-Some.k (sym c.first_place.ensures.first ∙ c.in-Some.is) in
    quotient_acts c.args.algebra.now c.args.t c.requires.t_below c.args.e.now c.requires.element Z H c.in-Some.k place.0 place.1 c.quotient.result
    (λ w below h. sym c.image_at.ensures.value ∙ c.quotient.ensures.quotient w below (c.image_at.ensures.value ∙ h))
    acts

pub returns-in-None-clause-acts : goal.returns-in-None-clause-acts
returns-in-None-clause-acts c = λ Z H acts.
    nought_acts c.args.algebra.now c.args.t c.requires.t_below c.args.e.now c.requires.element Z H
    (no_place c.args.algebra.now.rank c.args.e.now (sym c.first_place.ensures.first ∙ c.in-None.is)) acts
