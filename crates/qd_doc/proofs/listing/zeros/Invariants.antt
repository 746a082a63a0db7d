use Rattle.std.proofs.Common.{◌≡◌, replicate}
use Rattle.qd_doc.proofs.listing.zeros.Given as goal

abbrev pub invariant-loop : goal.invariant-loop
invariant-loop l = l.numbers ≡ replicate l.counter 0
