-- The largest magnitude of what was seen, with that of the rest.
use Rattle.qd_ring.proofs.Names.{◌≡◌, drop, max, size_of}
use Rattle.qd_ring.proofs.cyc_buffer.size.Given as goal

abbrev pub invariant-loop-a : goal.invariant-loop-a
invariant-loop-a l = max l.largest (size_of (drop l.a-index l.coefficients)) ≡ size_of l.coefficients
