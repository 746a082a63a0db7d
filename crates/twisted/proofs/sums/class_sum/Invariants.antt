use Rattle.twisted.proofs.Names.{◌≡◌, ℕ, ◌<◌, All, length, size, coefficient}
use Rattle.twisted.proofs.ClassSums.{partial_sum}
use Rattle.twisted.proofs.sums.class_sum.Given as goal

-- the class sum as far as the places below c carry p
abbrev pub invariant-loop-c : goal.invariant-loop-c
invariant-loop-c g l = record {
  count : length l.sum ≡ size l.twist;
  values : All (g.R.Ring.IsValue l.ring) l.sum;
  sums : (y : ℕ) → y < size l.twist
      → coefficient (g.R.Ring.of l.ring) (g.R.Ring.ops l.ring).nought l.sum y ≡ partial_sum (g.R.Ring.ops l.ring) (g.R.Ring.unit l.ring) l.twist l.p l.c y;
}
