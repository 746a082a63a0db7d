use Rattle.qd_steps.proofs.Names.{◌≡◌, None, map, range_with_len, first, lifted_over, lift_cause_over}
use Rattle.qd_steps.proofs.lifted.lifted_classes.Given as goal

-- the rows of the classes before class c, which are all lifted
abbrev pub invariant-loop-c : goal.invariant-loop-c
invariant-loop-c g l = record {
  kept : l.all.items ≡ map (lifted_over l.twists l.ring) (range_with_len 0 l.c);
  lifted : first l.c (lift_cause_over l.twists l.ring) ≡ None;
}
