use Rattle.central_ext.proofs.ClassNumbers.{IsNumberedBelow}
use Rattle.central_ext.proofs.conjugacy.ext_classes.Given as goal

-- the pairs before t have their class numbers, and the next new number follows them
abbrev pub invariant-loop-t : goal.invariant-loop-t
invariant-loop-t l = IsNumberedBelow l.twist l.t l.numbers l.next
