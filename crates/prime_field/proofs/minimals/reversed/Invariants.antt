use Rattle.prime_field.proofs.Names.{◌+◌, ◌-◌, ◌*◌, slice_index, IsTabulated}
use Rattle.prime_field.proofs.minimals.reversed.Given as goal

abbrev pub invariant-loop-k : goal.invariant-loop-k
invariant-loop-k l = IsTabulated l.k (λ k. slice_index l.rows (l.f * l.v + (l.v - 1 - k))) l.coefficients.items
