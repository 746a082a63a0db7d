use Rattle.std.proofs.Common.{◌≡◌, ℕ, ◌<◌, Bool, true}
use Rattle.scan.specs.First.{all_below}
use Rattle.scan.proofs.holds_below.Given as goal

-- the test holds at every number before i
abbrev pub invariant-loop-i : goal.invariant-loop-i
invariant-loop-i g l =
    (holds : ℕ → Bool) → ((i : ℕ) (r : Bool) → i < l.n → goal.F-post g l.test i r → r ≡ holds i) → all_below l.i holds ≡ true
