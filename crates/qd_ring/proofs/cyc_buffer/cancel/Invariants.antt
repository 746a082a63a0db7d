-- The first j numbers are those of the step.
use Rattle.qd_ring.proofs.Names.{◌≡◌, take, neg_ℤ, leading, plus, scaled}
use Rattle.qd_ring.proofs.cyc_buffer.cancel.Given as goal

abbrev pub invariant-loop-j : goal.invariant-loop-j
invariant-loop-j l = l.window ≡ plus l.initial.window (take l.j (scaled (neg_ℤ (leading l.initial.window)) l.low))
