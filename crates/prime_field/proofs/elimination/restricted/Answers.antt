use Rattle.prime_field.proofs.ResidueRows.{products_below}
use Rattle.prime_field.proofs.elimination.restricted.Goals as goal

pub restricted_by-requires-clause-width : goal.restricted_by-requires-clause-width
restricted_by-requires-clause-width c = rw c.as_slice.ensures.value (c.in_ok-numbers.ensures.numbers c.requires.modulus).count

pub restricted_by-requires-clause-numbers_below : goal.restricted_by-requires-clause-numbers_below
restricted_by-requires-clause-numbers_below c =
    rw c.as_slice.ensures.value
    (products_below c.args.ring.now.q c.requires.modulus c.args.w c.args.w _ _ c.in_ok-numbers.numbers.items (c.in_ok-numbers.ensures.numbers c.requires.modulus))

pub returns-clause-solved : goal.returns-clause-solved
returns-clause-solved c = λ listed n e same solved.
    c.in_ok-next.ensures.solved listed n e c.args.equation.now same (rw c.as_slice.ensures.value (c.in_ok-numbers.ensures.numbers listed)) solved
