use Rattle.qd_ring.proofs.Names.{◌-◌, length}
use Rattle.qd_ring.proofs.ReadingSteps.{ReadSoFar}
use Rattle.qd_ring.proofs.value_reader.read_coefficients.Given as goal

abbrev pub invariant-loop-at : goal.invariant-loop-at
invariant-loop-at l = ReadSoFar l.phi l.text l.next l.at l.coefficients

abbrev pub decreases-loop-at : goal.decreases-loop-at
decreases-loop-at l = length l.text - l.at
