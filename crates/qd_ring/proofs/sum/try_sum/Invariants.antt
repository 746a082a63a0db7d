use Rattle.qd_ring.proofs.Names.{◌≡◌, map, take, sum_list}
use Rattle.qd_ring.proofs.sum.try_sum.Given as goal

abbrev pub invariant-loop-term : goal.invariant-loop-term
invariant-loop-term g l = record {
  value : g.R.Ring.IsValue l.ring l.sum;
  sum : g.R.Ring.of l.ring l.sum ≡ sum_list (g.R.Ring.ops l.ring) (map (g.R.Ring.of l.ring) (take l.term-index l.terms));
}
