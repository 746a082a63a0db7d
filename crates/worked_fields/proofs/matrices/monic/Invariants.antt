use Rattle.std.proofs.Common.{◌≡◌, take}
use Rattle.worked_fields.proofs.matrices.monic.Given as goal

abbrev pub invariant-loop-value : goal.invariant-loop-value
invariant-loop-value l = l.values ≡ take l.value-index l.lower
