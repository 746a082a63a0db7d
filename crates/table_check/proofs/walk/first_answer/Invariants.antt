use Rattle.table_check.proofs.Names.{ℕ, ◌<◌, None}
use Rattle.table_check.proofs.walk.first_answer.Given as goal

-- nothing was answered before i
abbrev pub invariant-loop-i : goal.invariant-loop-i
invariant-loop-i g l = (j : ℕ) → j < l.i → goal.F-post g l.at j None
