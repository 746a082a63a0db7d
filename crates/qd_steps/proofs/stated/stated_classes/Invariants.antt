use Rattle.qd_steps.proofs.Names.{◌≡◌, map, range_with_len, stated_over}
use Rattle.qd_steps.proofs.stated.stated_classes.Given as goal

-- the rows of the classes before class c
abbrev pub invariant-loop-c : goal.invariant-loop-c
invariant-loop-c g l = l.all.items ≡ map (stated_over l.twists l.blocks) (range_with_len 0 l.c)
