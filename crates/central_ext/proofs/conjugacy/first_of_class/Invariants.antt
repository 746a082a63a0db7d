use Rattle.central_ext.proofs.Carriers.{IsLeastReached}
use Rattle.central_ext.proofs.conjugacy.first_of_class.Given as goal

-- the least number of the pair itself, and of its conjugates by the places below c
abbrev pub invariant-loop-c : goal.invariant-loop-c
invariant-loop-c l = IsLeastReached l.twist l.t l.c l.first
