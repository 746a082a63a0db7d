-- Polynomials over the whole numbers (textbook): a list of coefficients, by ascending powers of x.
-- Zeros at the end of a list change nothing of the polynomial.
use Rattle.std.specs.Prelude.{◌≡◌, ℕ, zero, suc, ℤ, pos, ◌+ℤ◌, ◌*ℤ◌, List, [], ◌∷◌, ◌++◌, replicate}

-- n coefficients 0
abbrev pub zeros : ℕ → List ℤ
zeros n = replicate n (pos 0)

-- the sum p + q
unfoldable pub plus : List ℤ → List ℤ → List ℤ
plus [] q = q
plus (a ∷ p) [] = a ∷ p
plus (a ∷ p) (b ∷ q) = (a +ℤ b) ∷ plus p q

-- the multiple c p by a whole number
unfoldable pub scaled : ℤ → List ℤ → List ℤ
scaled c [] = []
scaled c (a ∷ p) = (c *ℤ a) ∷ scaled c p

-- the product p q
unfoldable pub times : List ℤ → List ℤ → List ℤ
times [] q = []
times (a ∷ p) q = plus (scaled a q) (pos 0 ∷ times p q)

-- the power x^v
unfoldable pub x_to : ℕ → List ℤ
x_to v = zeros v ++ (pos 1 ∷ [])

-- the polynomial p(x^t)
unfoldable pub at_power : ℕ → List ℤ → List ℤ
at_power t [] = []
at_power t (a ∷ p) = plus (a ∷ []) (zeros t ++ at_power t p)

-- the last coefficient of the list
unfoldable pub leading : List ℤ → ℤ
leading [] = pos 0
leading (a ∷ []) = a
leading (a ∷ b ∷ p) = leading (b ∷ p)

-- all coefficients but the last
unfoldable pub lower : List ℤ → List ℤ
lower [] = []
lower (a ∷ []) = []
lower (a ∷ b ∷ p) = a ∷ lower (b ∷ p)

-- the coefficient of x^i
unfoldable pub coefficient : List ℤ → ℕ → ℤ
coefficient [] i = pos 0
coefficient (a ∷ p) zero = a
coefficient (a ∷ p) (suc i) = coefficient p i

-- two lists stand for one polynomial
abbrev pub IsSamePolynomial : List ℤ → List ℤ → Type 0
IsSamePolynomial p q = (i : ℕ) → coefficient p i ≡ coefficient q i
