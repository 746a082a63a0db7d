use Rattle.classes.proofs.Names.{◌≡◌, ℕ, ◌<◌, length, get_or, reach_of, Reach}
use Rattle.classes.proofs.sweep.sweep.Given as goal

abbrev pub invariant-loop-reach : goal.invariant-loop-reach
invariant-loop-reach l = record {
  count : length l.reaches.items ≡ l.reach-index;
  each : (g : ℕ) (d : Reach) → g < l.reach-index → get_or l.reaches.items g d ≡ reach_of l.group g;
}
