use Rattle.dixon_split.proofs.Names.{◌∙◌, ap, first}
use Rattle.dixon_split.proofs.Multiples.{found_multiple, found_acts, not_found, found_below}
use Rattle.dixon_split.proofs.pieces.multiplier.Goals as goal

pub returns-clause-below : goal.returns-clause-below
returns-clause-below c = found_below c.args.algebra.now c.as_slice.result.now c.args.e.now c.multiple_of.result c.multiple_of.ensures.least

pub returns-clause-acts : goal.returns-clause-acts
returns-clause-acts c = λ Z H.
    found_acts c.args.algebra.now c.args.t c.in_ok-image.image.items c.args.e.now c.in_ok-image.ensures.element Z H (c.in_ok-image.ensures.image Z H)
    c.multiple_of.result (c.multiple_of.ensures.least ∙ ap (λ xs. first c.args.algebra.now.q (found_multiple c.args.algebra.now xs c.args.e.now)) c.as_slice.ensures.value)

pub returns-clause-none : goal.returns-clause-none
returns-clause-none c = λ Z H.
    not_found c.args.algebra.now c.args.t c.in_ok-image.image.items c.args.e.now c.in_ok-image.ensures.element Z H (c.in_ok-image.ensures.image Z H)
    c.multiple_of.result (c.multiple_of.ensures.least ∙ ap (λ xs. first c.args.algebra.now.q (found_multiple c.args.algebra.now xs c.args.e.now)) c.as_slice.ensures.value)
