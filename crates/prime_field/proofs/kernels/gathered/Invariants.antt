use Rattle.prime_field.proofs.Names.{◌+◌, ◌*◌, ◌/◌, ◌%◌, slice_index, IsTabulated}
use Rattle.prime_field.proofs.kernels.gathered.Given as goal

abbrev pub invariant-loop-k : goal.invariant-loop-k
invariant-loop-k l = IsTabulated l.k (λ k. slice_index l.rows (slice_index l.places (k / l.w) * l.w + k % l.w)) l.basis
