use Rattle.char_lift.proofs.Names.{◌≡◌, ◌%◌, ◌<◌, sum_of, degree_term}
use Rattle.char_lift.proofs.degree.degree_sum.Given as goal

-- the terms before x
abbrev pub invariant-loop-x : goal.invariant-loop-x
invariant-loop-x l = record {
  so_far : l.sum ≡ sum_of l.x (degree_term l.twist l.powers.q l.powers.conductor l.powers.root l.ratios) % l.powers.q;
  below : l.sum < l.powers.q;
}
