use Rattle.classes.proofs.Names.{◌≡◌, ℕ, ◌<◌, length, get_or, class_of}
use Rattle.classes.proofs.parts.class_numbers.Given as goal

abbrev pub invariant-loop-g : goal.invariant-loop-g
invariant-loop-g l = record {
  count : length l.numbers ≡ l.g;
  each : (g : ℕ) → g < l.g → get_or l.numbers g 0 ≡ class_of l.group g;
}
