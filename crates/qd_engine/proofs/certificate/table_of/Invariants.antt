use Rattle.std.proofs.Common.{◌≡◌, take}
use Rattle.qd_engine.proofs.certificate.table_of.Given as goal

-- the entries before this place
abbrev pub invariant-loop-place : goal.invariant-loop-place
invariant-loop-place l = l.table ≡ take l.place l.group.entries
