use Rattle.std.proofs.Common.{◌≡◌}
use Rattle.prime_field.proofs.MonicValues.{value_from}
use Rattle.prime_field.proofs.cyclotomic_root.monic_value.Given as goal

abbrev pub invariant-loop-i : goal.invariant-loop-i
invariant-loop-i l = l.value ≡ value_from l.q l.r l.lower l.i
