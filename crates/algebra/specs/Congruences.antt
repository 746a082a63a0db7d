-- Congruence of natural numbers (Gauss 1801).
use Rattle.std.specs.Prelude.{◌≡◌, ℕ, ◌%◌}

-- a and b leave the same remainder modulo n
pub record Same (n a b : ℕ) : Type 0 where
  pub same : a % n ≡ b % n
