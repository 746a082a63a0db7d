-- The list of the reduced powers of x, and the value of a polynomial at x^t as a sum of them.
use Rattle.cyclotomic.proofs.Names.{ℕ, zero, suc, ◌+◌, ◌%◌, List, [], ◌∷◌, get_or, ℤ, pos, zeros, plus, scaled, cancelled, remainder}

-- r, x r, x^2 r, .., n of them, reduced by m
unfoldable pub rows_from : List ℤ → List ℤ → ℕ → List (List ℤ)
rows_from m r zero = []
rows_from m r (suc n) = r ∷ rows_from m (cancelled m (pos 0 ∷ r)) n

-- 1, x, x^2, .., x^(k - 1), reduced by m
unfoldable pub power_rows : List ℤ → ℕ → List (List ℤ)
power_rows m k = rows_from m (remainder m (pos 1 ∷ [])) k

-- the sum of a_i x^((e + t i) modulo k) over the coefficients a_i of a polynomial
unfoldable pub sum_of_rows : ℕ → List (List ℤ) → ℕ → ℕ → ℕ → List ℤ → List ℤ
sum_of_rows n rows k t e [] = zeros n
sum_of_rows n rows k t e (a ∷ p) = plus (scaled a (get_or rows e [])) (sum_of_rows n rows k t ((e + t) % k) p)
