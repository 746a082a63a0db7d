use Rattle.std.proofs.Common.{◌≡◌, take}
use Rattle.qd_engine.proofs.certificate.exponents_of.Given as goal

-- the exponents before this place
abbrev pub invariant-loop-place : goal.invariant-loop-place
invariant-loop-place l = l.exponents ≡ take l.place l.w.exponents
