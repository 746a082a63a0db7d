-- What the table of the powers of a root keeps.
use Rattle.std.specs.Prelude.{◌≡◌, ℕ, ◌<◌, List, length, slice_index}
use Rattle.prime_field.specs.Laws.Moduli.{power_modulo}

-- the first n powers of z modulo q: z^0, .., z^(n - 1)
pub record ListsPowers (q z n : ℕ) (powers : List ℕ) : Type 0 where
  pub count : length powers ≡ n
  pub each : (e : ℕ) → e < n → slice_index powers e ≡ power_modulo q z e
