use Rattle.prime_field.proofs.Names.{◌≡◌, drop, value_at}
use Rattle.prime_field.proofs.poly.value_at.Given as goal

abbrev pub invariant-loop-i : goal.invariant-loop-i
invariant-loop-i l = l.value ≡ value_at l.q l.x (drop l.i l.coefficients)
