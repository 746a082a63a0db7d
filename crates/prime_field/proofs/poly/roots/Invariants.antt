use Rattle.prime_field.proofs.Names.{◌≡◌, passing_below, is_root}
use Rattle.prime_field.proofs.poly.roots.Given as goal

abbrev pub invariant-loop-x : goal.invariant-loop-x
invariant-loop-x l = l.found.items ≡ passing_below l.x (is_root l.q l.coefficients)
