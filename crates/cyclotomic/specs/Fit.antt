-- Rules of fit: which results are given, and which sizes overflow together (this project's choice).
use Rattle.std.specs.Prelude.{ℕ, ◌-◌, ◌*◌, ◌^◌, max, nat_le, nat_lt, ℤ, nat_abs, Bool, List, [], ◌∷◌, sum_by}
use Rattle.cyclotomic.specs.Ring.{Value}

-- the largest magnitude that a coefficient may have
abbrev pub greatest_magnitude : ℕ
greatest_magnitude = 2 ^ 120 - 1

-- the largest magnitude of a coefficient
unfoldable pub size_of : List ℤ → ℕ
size_of [] = 0
size_of (a ∷ p) = max (nat_abs a) (size_of p)

abbrev pub value_size : {n : ℕ} → Value n → ℕ
value_size u = size_of u.coefficients

-- a value fits where each coefficient is at most 2^120 - 1 in magnitude
unfoldable pub value_fits : {n : ℕ} → Value n → Bool
value_fits u = nat_le (value_size u) greatest_magnitude

-- a product of two values fits exactly where the product of their sizes is below 2^108
unfoldable pub product_fits : {n : ℕ} → Value n → Value n → Bool
product_fits u v = nat_lt (value_size u * value_size v) (2 ^ 108)

-- the sizes of the terms add up to more than 2^120 - 1
unfoldable pub sizes_overflow : {n : ℕ} → List (Value n) → Bool
sizes_overflow terms = nat_lt greatest_magnitude (sum_by (λ u. value_size u) terms)
