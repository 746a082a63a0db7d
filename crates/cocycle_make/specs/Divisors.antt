-- The greatest common divisor of two numbers.
use Rattle.std.specs.Prelude.{ℕ, zero, suc, ◌%◌, Bool, ◌&&◌, ◌==◌, if◌then◌else◌}

-- the greatest number from 1 to n that passes the test, or else 0
unfoldable pub greatest : ℕ → (ℕ → Bool) → ℕ
greatest zero test = 0
greatest (suc n) test = if test (suc n) then suc n else greatest n test

-- d divides both numbers
abbrev pub divides_both : ℕ → ℕ → ℕ → Bool
divides_both n p d = (n % d == 0) && (p % d == 0)

-- the greatest number to n that divides n and p; for p = 0 it is n
abbrev pub common_divisor : ℕ → ℕ → ℕ
common_divisor n p = greatest n (divides_both n p)
