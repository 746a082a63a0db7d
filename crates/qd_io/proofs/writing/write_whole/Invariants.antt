use Rattle.std.proofs.Common.{◌≤◌, length}
use Rattle.qd_io.specs.Stream.{HasRoom}
use Rattle.qd_io.proofs.Known.{IsWrittenUpTo}
use Rattle.qd_io.proofs.writing.write_whole.Given as goal

-- what was written so far, and what is left to write, are the text
abbrev pub invariant-loop-rest : goal.invariant-loop-rest
invariant-loop-rest g l =
    IsWrittenUpTo (g.W.Sink.written l.fn.sink) (g.W.Sink.written l.sink) l.fn.text l.rest
    × (g.W.Sink.faults l.fn.sink ≤ g.W.Sink.faults l.sink)
    × (HasRoom (g.W.Sink.room l.fn.sink) l.fn.text → HasRoom (g.W.Sink.room l.sink) l.rest)

abbrev pub decreases-loop-rest : goal.decreases-loop-rest
decreases-loop-rest g l = length l.rest
