use Rattle.dixon_split.proofs.Names.{◌≡◌, ℕ, ◌<◌, IsTabulated}
use Rattle.dixon_split.proofs.arithmetic.tabulate.Given as goal

abbrev pub invariant-loop-i : goal.invariant-loop-i
invariant-loop-i g l = (value : ℕ → ℕ) → ((i r : ℕ) → i < l.n → goal.F-post g l.at i r → r ≡ value i) → IsTabulated l.i value l.numbers.items
