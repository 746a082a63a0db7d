use Rattle.classes.proofs.Names.{◌≡◌, ℕ, ◌<◌, None, length, get_or, reach_below}
use Rattle.classes.proofs.sweep.sweep_rows.Given as goal

abbrev pub invariant-loop-a : goal.invariant-loop-a
invariant-loop-a l = record {
  count : length l.found.items ≡ l.group.order;
  lower : (g : ℕ) → g < l.group.order → get_or l.found.items g None ≡ reach_below l.group l.a g;
}
