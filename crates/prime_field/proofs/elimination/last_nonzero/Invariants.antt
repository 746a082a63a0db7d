use Rattle.prime_field.proofs.Names.{◌≡◌, ◌≢◌, ◌<◌, ℕ, get_or, MatchOption}
use Rattle.prime_field.proofs.elimination.last_nonzero.Given as goal

abbrev pub invariant-loop-i : goal.invariant-loop-i
invariant-loop-i l = MatchOption l.last
    ((k : ℕ) → k < l.i → get_or l.numbers k 0 ≡ 0)
    (λ j. (j < l.i) × (get_or l.numbers j 0 ≢ 0) × ((k : ℕ) → j < k → k < l.i → get_or l.numbers k 0 ≡ 0))
