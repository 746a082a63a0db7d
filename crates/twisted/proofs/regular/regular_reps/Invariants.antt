use Rattle.twisted.proofs.Names.{◌≡◌, ◌+◌, ◌≤◌, ◌∷◌, length, identity_of, passing_below}
use Rattle.twisted.proofs.Representatives.{is_other_regular}
use Rattle.twisted.proofs.regular.regular_reps.Given as goal

-- the identity and the others below p
abbrev pub invariant-loop-p : goal.invariant-loop-p
invariant-loop-p l = record { listed : l.places ≡ identity_of l.twist.group ∷ passing_below l.p (is_other_regular l.twist); few : length l.places ≤ l.p + 1 }
