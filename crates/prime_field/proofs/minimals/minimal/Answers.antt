use Rattle.prime_field.proofs.KernelLists.{entries_below}
use Rattle.prime_field.proofs.minimals.minimal.Goals as goal

pub minimal_of-requires-clause-below : goal.minimal_of-requires-clause-below
minimal_of-requires-clause-below c =
    rw c.as_slice-numbers.ensures.numbers (entries_below c.args.ring.now.q c.args.a.now.width c.args.a.now.numbers c.as_slice-numbers.ensures.square.square c.requires.entries_below)

pub returns-clause-minimal : goal.returns-clause-minimal
returns-clause-minimal c = λ listed. rw (c.width-width.ensures.width, c.as_slice-numbers.ensures.numbers) at (c.in_ok-f.ensures.minimal listed)
