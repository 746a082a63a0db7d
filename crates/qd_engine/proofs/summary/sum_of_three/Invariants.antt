use Rattle.qd_engine.proofs.Names.{◌≡◌, ℕ, ◌*◌, ◌<◌, ◌≤◌, map, sum, range_with_len}
use Rattle.qd_engine.proofs.Summaries.{of_place}
use Rattle.qd_engine.proofs.summary.sum_of_three.Given as goal

-- the numbers of the places before p
abbrev pub invariant-loop-p : goal.invariant-loop-p
invariant-loop-p g l = record {
  few : l.total ≤ l.p * 4294967295;
  kept : (at : ℕ → ℕ → ℕ → ℕ) → ((i j m v : ℕ) → i < l.n → j < l.n → m < l.n → goal.F-post g l.number i j m v → v ≡ at i j m)
      → l.total ≡ sum (map (of_place l.n at) (range_with_len 0 l.p));
}
