use Rattle.prime_field.proofs.MinimalLists.{equation_is, equations_below}
use Rattle.prime_field.proofs.minimals.annihilators.Goals as goal

pub equations_of-requires-clause-whole : goal.equations_of-requires-clause-whole
equations_of-requires-clause-whole c = rw c.as_slice.ensures.value (c.in_ok-powers.ensures.powers c.requires.modulus).count

pub solutions-requires-clause-below : goal.solutions-requires-clause-below
solutions-requires-clause-below c =
    rw c.as_slice-2.ensures.value
    (equations_below c.args.ring.now.q c.requires.modulus c.args.w c.args.numbers.now c.in_ok-powers.powers.items c.in_ok-equations.equations.items (c.in_ok-powers.ensures.powers c.requires.modulus)
    (rw c.as_slice.ensures.value at c.in_ok-equations.ensures.equations))

pub returns-clause-solved : goal.returns-clause-solved
returns-clause-solved c = λ listed.
    c.in_ok-rows.ensures.solved listed _
    (rw c.as_slice-2.ensures.value
    (equation_is c.args.ring.now.q listed c.args.w c.args.numbers.now c.in_ok-powers.powers.items c.in_ok-equations.equations.items (c.in_ok-powers.ensures.powers listed)
    (rw c.as_slice.ensures.value at c.in_ok-equations.ensures.equations)))
