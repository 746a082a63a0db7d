use Rattle.qd_ring.proofs.Names.{◌≡◌, ◌≤◌, min, take, number}
use Rattle.qd_ring.proofs.value_reader.capped_number.Given as goal

-- the number of the digits so far, capped
abbrev pub invariant-loop-byte : goal.invariant-loop-byte
invariant-loop-byte l = record { read : l.capped ≡ min (number (take l.byte-index l.digits)) l.cap; bound : l.capped ≤ l.cap }
