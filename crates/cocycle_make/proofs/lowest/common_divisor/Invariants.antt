use Rattle.cocycle_make.proofs.Names.{◌≡◌, greatest, divides_both}
use Rattle.cocycle_make.proofs.lowest.common_divisor.Given as goal

-- the greatest of the numbers tried
abbrev pub invariant-loop-i : goal.invariant-loop-i
invariant-loop-i l = l.greatest ≡ greatest l.i (divides_both l.n l.p)
