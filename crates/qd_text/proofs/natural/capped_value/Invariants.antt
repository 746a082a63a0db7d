use Rattle.qd_text.proofs.Names.{◌≡◌, ◌^◌, min, take, value}
use Rattle.qd_text.proofs.natural.capped_value.Given as goal

-- the value of the digits so far, capped
abbrev pub invariant-loop-byte : goal.invariant-loop-byte
invariant-loop-byte l = l.capped ≡ min (value (take l.byte-index l.text)) (2 ^ 32)
