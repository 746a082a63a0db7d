use Rattle.std.proofs.Common.{◌≡◌, ℕ, ◌<◌, Option, None}
use Rattle.scan.specs.First.{first}
use Rattle.scan.proofs.first_below.Given as goal

-- nothing was found before i
abbrev pub invariant-loop-i : goal.invariant-loop-i
invariant-loop-i g l =
    (found : ℕ → Option g.row.T.Denot) → ((i : ℕ) (r : Option g.row.T.Denot) → i < l.n → goal.F-post g l.at i r → r ≡ found i) → first l.i found ≡ None
