use Rattle.std.proofs.Common.{◌≤◌, ◌+◌, ◌-◌, vec_len}
use Rattle.std.specs.Io.KnownBytes.{Consumes}
use Rattle.qd_io.specs.declared.reading.TheConstants.{INPUT_LIMIT}
use Rattle.qd_io.proofs.reading.read_all.Given as goal

-- the bytes so far are what was taken
abbrev pub invariant-loop-bytes : goal.invariant-loop-bytes
invariant-loop-bytes g l =
    Consumes (g.S.Source.left l.fn.source) (g.S.Source.left l.source) l.bytes.items
    × (vec_len l.bytes ≤ INPUT_LIMIT)
    × (g.S.Source.faults l.fn.source ≤ g.S.Source.faults l.source)

abbrev pub decreases-loop-bytes : goal.decreases-loop-bytes
decreases-loop-bytes g l = INPUT_LIMIT + 1 - vec_len l.bytes
