-- How a value of the cyclotomic ring stands in an array of 42 numbers: its phi(K) coefficients, then zeros.
use Rattle.std.specs.Prelude.{ℕ, ◌-◌, ℤ, pos, negsuc, Bool, false, ◌==◌, ◌&&◌, nat_le, List, ◌++◌, length, drop}
use Rattle.std.specs.List.{list_all}
use Rattle.cyclotomic.specs.Polynomial.{zeros}
use Rattle.cyclotomic.specs.Conductors.{phi_of}
use Rattle.cyclotomic.specs.Ring.{Value}
use Rattle.cyclotomic.specs.Fit.{size_of, greatest_magnitude}

-- the array of a value
unfoldable pub array_of : {n : ℕ} → Value n → List ℤ
array_of u = u.coefficients ++ zeros (42 - length u.coefficients)

abbrev pub is_nought : ℤ → Bool
is_nought (pos n) = n == 0
is_nought (negsuc n) = false

-- 42 numbers, with zeros from phi(K) on
unfoldable pub is_array : ℕ → List ℤ → Bool
is_array k xs = (length xs == 42) && list_all is_nought (drop (phi_of k) xs)

-- each number is at most 2^120 - 1 in magnitude
unfoldable pub is_small : List ℤ → Bool
is_small xs = nat_le (size_of xs) greatest_magnitude
