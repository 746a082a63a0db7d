-- The first answer of a walk.
use Rattle.std.specs.Prelude.{◌≡◌, ℕ, ◌<◌, Option, Some, None}

-- `says i r` tells that r may be what is answered at i: the result is an answer at the least number below n at which there is one
pub record IsFirstAnswer {T : Type 0} (n : ℕ) (says : ℕ → Option T → Type 0) (result : Option T) : Type 0 where
  pub none : result ≡ None → (i : ℕ) → i < n → says i None
  pub some : (x : T) → result ≡ Some x → (i : ℕ) × (i < n) × says i (Some x) × ((j : ℕ) → j < i → says j None)
