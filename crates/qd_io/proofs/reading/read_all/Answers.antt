use Rattle.std.proofs.Common.{◌≡◌, ◌++◌, ◌+◌, length, take, arith}
use Rattle.qd_io.proofs.Known.{Consumes-then, length-with_chunk}
use Rattle.qd_io.proofs.reading.read_all.Goals as goal

pub returns-then-len-count-gt-INPUT_LIMIT-clause-too_long :
    goal.returns-then-len-count-gt-INPUT_LIMIT-clause-too_long
returns-then-len-count-gt-INPUT_LIMIT-clause-too_long g c =
    let taken = c.loop-bytes.bytes.items ++ take c.in_ok-count.count c.read.new.buf in
    let long : length taken ≡ length c.loop-bytes.bytes.items + c.in_ok-count.count = length-with_chunk _ c.read.new.buf c.in_ok-count.count c.in_ok-count.ensures.bound in
    λ _. (taken, omega (arith, c.len.ensures), Consumes-then _ _ _ _ _ c.loop-bytes.invariant.0 c.in_ok-count.ensures.bytes.0)

pub returns-in_err-extend_from_slice-clause-memory :
    goal.returns-in_err-extend_from_slice-clause-memory
returns-in_err-extend_from_slice-clause-memory g c =
    let taken = c.loop-bytes.bytes.items ++ take c.in_ok-count.count c.read.new.buf in
    let long : length taken ≡ length c.loop-bytes.bytes.items + c.in_ok-count.count = length-with_chunk _ c.read.new.buf c.in_ok-count.count c.in_ok-count.ensures.bound in
    λ _. (taken, omega (arith, c.len.ensures), Consumes-then _ _ _ _ _ c.loop-bytes.invariant.0 c.in_ok-count.ensures.bytes.0)
