use Rattle.qd_steps.proofs.Names.{◌≡◌, map, range_with_len, class_twist}
use Rattle.qd_steps.proofs.class_twists.ClassTwists.of.Given as goal

-- those of the classes before class c
abbrev pub invariant-loop-c : goal.invariant-loop-c
invariant-loop-c l = l.twists.items ≡ map (class_twist l.w) (range_with_len 0 l.c)
