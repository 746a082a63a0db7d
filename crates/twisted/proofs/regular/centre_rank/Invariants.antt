use Rattle.twisted.proofs.Names.{◌≡◌, ◌+◌, ◌≤◌, length, passing_below}
use Rattle.twisted.proofs.Representatives.{is_other_regular}
use Rattle.twisted.proofs.regular.centre_rank.Given as goal

-- the identity's class and the others below p
abbrev pub invariant-loop-p : goal.invariant-loop-p
invariant-loop-p l = record { counted : l.rank ≡ 1 + length (passing_below l.p (is_other_regular l.twist)); few : l.rank ≤ l.p + 1 }
