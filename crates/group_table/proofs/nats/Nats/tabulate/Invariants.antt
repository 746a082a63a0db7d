use Rattle.std.proofs.Common.{◌≡◌, ℕ, ◌<◌, length}
use Rattle.group_table.specs.Numbers.{tabulated}
use Rattle.group_table.proofs.nats.Nats.tabulate.Given as goal

-- the numbers before the one at i
abbrev pub invariant-loop-i : goal.invariant-loop-i
invariant-loop-i g l = record {
  count : length l.numbers ≡ l.i;
  kept : (at : ℕ → ℕ) → ((i v : ℕ) → i < l.n → goal.F-post g l.number i v → v ≡ at i) → l.numbers ≡ tabulated l.i at;
}
