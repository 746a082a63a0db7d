-- Long division by a monic polynomial m, a list whose last coefficient is 1 (textbook).
use Rattle.std.specs.Prelude.{ℕ, ℤ, neg_ℤ, List, [], ◌∷◌, length, take, ◌-◌}
use Rattle.cyclotomic.specs.Polynomial.{zeros, plus, scaled, leading, lower}

-- the degree of a polynomial whose last coefficient isn't 0
abbrev pub degree : List ℤ → ℕ
degree m = length (lower m)

-- t - c m, where t has the length of m and c is its last coefficient: a list of degree m coefficients
unfoldable pub cancelled : List ℤ → List ℤ → List ℤ
cancelled m t = plus (lower t) (scaled (neg_ℤ (leading t)) (lower m))

-- quotient and remainder of p by m, from the highest coefficient of p down: with p = q m + r,
-- the division of a + x p has the next coefficient of the quotient, and the remainder of a + x r
unfoldable pub division : List ℤ → List ℤ → List ℤ × List ℤ
division m [] = ([], zeros (degree m))
division m (a ∷ p) = next (division m p)
  where
    next : List ℤ × List ℤ → List ℤ × List ℤ
    next d = (leading (a ∷ d.1) ∷ d.0, cancelled m (a ∷ d.1))

-- the remainder of p by the monic polynomial m: a list of degree m coefficients
unfoldable pub remainder : List ℤ → List ℤ → List ℤ
remainder m p = (division m p).1

-- the quotient of p by the monic polynomial m
unfoldable pub quotient : List ℤ → List ℤ → List ℤ
quotient m p = take (length p - degree m) (division m p).0
