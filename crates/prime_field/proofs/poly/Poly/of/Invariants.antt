use Rattle.std.proofs.Common.{◌≡◌, take}
use Rattle.prime_field.proofs.poly.Poly.of.Given as goal

abbrev pub invariant-loop-value : goal.invariant-loop-value
invariant-loop-value l = l.coefficients.items ≡ take l.value-index l.value-items
