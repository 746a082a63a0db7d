use Rattle.char_lift.proofs.Names.{◌≡◌, ◌*◌, ◌≤◌, slice_index, sum_of}
use Rattle.char_lift.proofs.multiplicities.total.Given as goal

-- the numbers before i
abbrev pub invariant-loop-i : goal.invariant-loop-i
invariant-loop-i l = record {
  so_far : l.sum ≡ sum_of l.i (slice_index l.numbers);
  small : l.sum ≤ l.i * 337;
}
