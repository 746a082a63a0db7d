use Rattle.std.proofs.Common.{◌≡◌, ◌≤◌, length, map, take}
use Rattle.twisted.specs.Regular.{rank}
use Rattle.qd_steps.proofs.class_twists.ClassTwists.ranks.Given as goal

-- the ranks of the ones before that with the number c
abbrev pub invariant-loop-c : goal.invariant-loop-c
invariant-loop-c l = record {
  count : length l.ranks ≤ l.c;
  kept : l.ranks ≡ map rank (take l.c l.self);
}
