-- No entry is a multiple of 0, and the search goes over the column of conductors.
use Rattle.cyclotomic.proofs.Names.{◌≡◌, None, refl, ap, sym, ◌∙◌, conductors, least_conductor}
use Rattle.cyclotomic.proofs.table.conductor.Goals as goal

none_of_zero : least_conductor 0 ≡ None
unfolding least_conductor conductors
none_of_zero = refl

pub returns-then-m-eq0-clause-least : goal.returns-then-m-eq0-clause-least
returns-then-m-eq0-clause-least c = ap least_conductor c.if-m-eq0.true ∙ none_of_zero

pub returns-in-Some-clause-least : goal.returns-in-Some-clause-least
unfolding least_conductor conductors
returns-in-Some-clause-least c = sym c.in-Some.ensures

pub returns-in-None-clause-least : goal.returns-in-None-clause-least
unfolding least_conductor conductors
returns-in-None-clause-least c = sym c.in-None.ensures
