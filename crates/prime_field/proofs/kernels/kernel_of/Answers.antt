use Rattle.prime_field.proofs.Names.{refl, length-passing_below}
use Rattle.prime_field.proofs.KernelLists.{begins_at, begins_below, kernel_basis}
use Rattle.prime_field.proofs.kernels.kernel_of.Goals as goal

pub gathered-requires-clause-few_places : goal.gathered-requires-clause-few_places
gathered-requires-clause-few_places c = rw c.in_ok-places.ensures.places (length-passing_below c.args.w (begins_at c.as_slice.result.now c.args.w))

pub gathered-requires-clause-places_below : goal.gathered-requires-clause-places_below
gathered-requires-clause-places_below c = rw c.in_ok-places.ensures.places (begins_below c.args.w c.as_slice.result.now)

pub returns : goal.returns
returns c = record {
  basis = λ listed.
      kernel_basis c.args.ring.now.q listed c.args.w c.args.numbers.now c.in_ok-rows.rows.items c.in_ok-basis.basis c.requires.some c.in_ok-rows.ensures.square c.in_ok-rows.ensures.below
      (c.in_ok-rows.ensures.solved listed _ (λ k m h l. refl))
      (rw (c.in_ok-places.ensures.places, c.as_slice.ensures.value, c.as_slice-2.ensures.value) at c.in_ok-basis.ensures.rows);
}
