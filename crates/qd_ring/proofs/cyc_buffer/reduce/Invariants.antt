-- The window at the place `at` has the remainder of what stood from there on, and what stands below is untouched.
use Rattle.qd_ring.proofs.Names.{◌≡◌, ◌+◌, ◌≤◌, take, drop, length, cyclotomic, phi_of, remainder}
use Rattle.qd_ring.proofs.cyc_buffer.reduce.Given as goal

abbrev pub decreases-loop-at : goal.decreases-loop-at
decreases-loop-at l = l.at

abbrev pub invariant-loop-at : goal.invariant-loop-at
invariant-loop-at l = record {
  inside : l.at + phi_of l.k ≤ length l.buffer;
  below : take l.at l.buffer ≡ take l.at l.initial.buffer;
  window : take (phi_of l.k) (drop l.at l.buffer) ≡ remainder (cyclotomic l.k) (drop l.at l.initial.buffer);
}
