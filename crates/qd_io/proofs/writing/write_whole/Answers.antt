use Rattle.std.proofs.Common.{arith}
use Rattle.qd_io.proofs.Known.{writes_more, room_serves}
use Rattle.qd_io.proofs.writing.write_whole.Goals as goal

pub loop-rest-preserved : goal.loop-rest-preserved
loop-rest-preserved g c =
    rw c.split_at.ensures.back (
      writes_more _ _ _ _ _ c.in_ok-taken.taken c.loop-rest.invariant.0 c.in_ok-taken.ensures.bytes,
      omega (arith, c.in_ok-taken.ensures.never_falls),
      room_serves _ _ _ _ _ c.in_ok-taken.taken c.in_ok-taken.ensures.bound c.loop-rest.invariant.2 c.in_ok-taken.ensures.promised,
    )
