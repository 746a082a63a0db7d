-- The first j numbers are changed.
use Rattle.qd_ring.proofs.Names.{◌≡◌, take, neg_ℤ, plus, scaled}
use Rattle.qd_ring.proofs.cyc_buffer.combine.Given as goal

abbrev pub invariant-loop-j : goal.invariant-loop-j
invariant-loop-j l = l.a ≡ plus l.initial.a (take l.j (scaled (neg_ℤ l.sign) l.b))
