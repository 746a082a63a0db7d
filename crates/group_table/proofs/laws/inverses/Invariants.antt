use Rattle.std.proofs.Common.{◌≡◌, ℕ, ◌<◌, length, Some, get_or}
use Rattle.group_table.specs.Group.{inverse_of}
use Rattle.group_table.proofs.laws.inverses.Given as goal

abbrev pub invariant-loop-g : goal.invariant-loop-g
invariant-loop-g l = record {
  count : length l.inverses ≡ l.g;
  each : (g : ℕ) → g < l.g → inverse_of (record { order = l.n; entries = l.table }) g ≡ Some (get_or l.inverses g 0);
}
