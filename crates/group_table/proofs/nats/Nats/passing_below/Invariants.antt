use Rattle.std.proofs.Common.{◌≡◌, ℕ, ◌<◌, ◌≤◌, Bool, length}
use Rattle.group_table.specs.Numbers.{passing_below}
use Rattle.group_table.proofs.nats.Nats.passing_below.Given as goal

-- the numbers before i that pass
abbrev pub invariant-loop-i : goal.invariant-loop-i
invariant-loop-i g l = record {
  count : length l.numbers ≤ l.i;
  kept : (passes : ℕ → Bool) → ((i : ℕ) (r : Bool) → i < l.n → goal.F-post g l.test i r → r ≡ passes i) → l.numbers ≡ passing_below l.i passes;
}
