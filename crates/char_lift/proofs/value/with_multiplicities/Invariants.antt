use Rattle.char_lift.proofs.Names.{◌≡◌, slice_index, cyclotomic_value}
use Rattle.char_lift.proofs.ValueLaws.{first_copies}
use Rattle.char_lift.proofs.value.with_multiplicities.Given as goal

-- the copies of the roots before i
abbrev pub invariant-loop-i : goal.invariant-loop-i
invariant-loop-i g l = cyclotomic_value g.row.K l.value.coefficients ≡ first_copies g.row.K l.i (slice_index l.multiplicities)
