-- The least number below a bound at which something is found.
use Rattle.std.specs.Prelude.{ℕ, zero, suc, Bool, true, ◌&&◌, Option, Some, None}

-- the first answer, or else the second
abbrev pub option_or : {A : Type 0} → Option A → Option A → Option A
option_or (Some a) later = Some a
option_or None later = later

-- what is found at the least number below n at which something is found
unfoldable pub first : {A : Type 0} → ℕ → (ℕ → Option A) → Option A
first zero at = None
first (suc n) at = option_or (first n at) (at n)

-- the test holds at every number below n
unfoldable pub all_below : ℕ → (ℕ → Bool) → Bool
all_below zero test = true
all_below (suc n) test = all_below n test && test n
