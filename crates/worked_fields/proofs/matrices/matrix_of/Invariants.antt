use Rattle.std.proofs.Common.{◌≡◌}
use Rattle.prime_field.specs.SquareMatrix.{HasEntriesBelow}
use Rattle.worked_fields.proofs.matrices.matrix_of.Given as goal

abbrev pub invariant-loop-k : goal.invariant-loop-k
invariant-loop-k l = record {
  width : l.matrix.width ≡ l.r;
  entries_below : HasEntriesBelow l.ring.q l.matrix;
}
