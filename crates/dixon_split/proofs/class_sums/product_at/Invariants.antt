use Rattle.dixon_split.proofs.Names.{◌≡◌, ◌<◌, sum_below, term_at}
use Rattle.dixon_split.specs.ClassSums.{residue_field}
use Rattle.dixon_split.proofs.class_sums.product_at.Given as goal

abbrev pub invariant-loop-y : goal.invariant-loop-y
invariant-loop-y l = record {
  below : l.sum < l.ring.q;
  so_far : l.sum ≡ (sum_below (residue_field l.ring) l.y (term_at l.ring l.twist l.a l.b l.x)).value;
}
