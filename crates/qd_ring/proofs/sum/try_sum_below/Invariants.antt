use Rattle.qd_ring.proofs.Names.{◌≡◌, ◌<◌, ℕ, Bool, Option, sum_below, IsTerm}
use Rattle.qd_ring.proofs.sum.try_sum_below.Given as goal

-- the sum of the terms before i
abbrev pub invariant-loop-i : goal.invariant-loop-i
invariant-loop-i g l = record {
  value : g.R.Ring.IsValue l.ring l.sum;
  sum : (steps_fit : ℕ → Bool) (value : ℕ → g.R.Ring.Carrier l.ring)
      → ((i : ℕ) (r : Option g.row.R-Elem.Denot) → i < l.n → goal.F-post g l.term i r → IsTerm (g.R.Ring.of l.ring) (steps_fit i) (value i) r)
      → g.R.Ring.of l.ring l.sum ≡ sum_below (g.R.Ring.ops l.ring) l.i value;
}
