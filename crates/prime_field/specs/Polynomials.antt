-- Polynomials with coefficients modulo q.
use Rattle.std.specs.Prelude.{◌≢◌, ℕ, ◌%◌, ◌<◌, List, length, slice_index}

-- some coefficient of the polynomial isn't 0 modulo q
abbrev pub HasCoefficient : ℕ → List ℕ → Type 0
HasCoefficient q f = (k : ℕ) × (k < length f) × (slice_index f k % q ≢ 0)
