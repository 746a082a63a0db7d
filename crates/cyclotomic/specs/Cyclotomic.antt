-- Cyclotomic polynomials (textbook): Phi_d is x^d - 1 divided exactly by the Phi of the proper divisors of d.
use Rattle.std.specs.Prelude.{ℕ, zero, suc, ◌%◌, ◌==◌, ℤ, pos, negsuc, true, false, List, [], ◌∷◌, ◌++◌}
use Rattle.cyclotomic.specs.Polynomial.{plus, times, x_to}
use Rattle.cyclotomic.specs.Division.{quotient}

-- x^d - 1
abbrev pub x_to_minus_one : ℕ → List ℤ
x_to_minus_one d = plus (x_to d) (negsuc 0 ∷ [])

-- p divided by each polynomial of a list whose number divides d; the numbers count up from k
unfoldable pub divided_by_divisors : ℕ → ℕ → List ℤ → List (List ℤ) → List ℤ
divided_by_divisors d k p [] = p
divided_by_divisors d k p (m ∷ rest) =
    divided_by_divisors d (suc k) (elim (d % k == 0) [ true ↦ quotient m p | false ↦ p ]) rest

-- x^d - 1 divided by those of Phi_1, Phi_2, .. whose number divides d
unfoldable pub next_cyclotomic : ℕ → List (List ℤ) → List ℤ
next_cyclotomic d below = divided_by_divisors d 1 (x_to_minus_one d) below

-- Phi_1 to Phi_n
unfoldable pub cyclotomics : ℕ → List (List ℤ)
cyclotomics zero = []
cyclotomics (suc n) = add_next (cyclotomics n)
  where
    add_next : List (List ℤ) → List (List ℤ)
    add_next below = below ++ (next_cyclotomic (suc n) below ∷ [])

-- Phi_d, for d from 1
unfoldable pub cyclotomic : ℕ → List ℤ
cyclotomic zero = []
cyclotomic (suc n) = next_cyclotomic (suc n) (cyclotomics n)

-- the product of the Phi_d over those d from 1 to n that divide k
unfoldable pub divisor_product : ℕ → ℕ → List ℤ
divisor_product k zero = pos 1 ∷ []
divisor_product k (suc n) =
    elim (k % suc n == 0) [ true ↦ times (cyclotomic (suc n)) (divisor_product k n) | false ↦ divisor_product k n ]
