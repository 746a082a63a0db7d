-- The whole-number polynomials modulo a monic polynomial m: lists of degree m coefficients (textbook).
use Rattle.std.specs.Prelude.{ℕ, ℤ, pos, negsuc, ◌≡◌, List, [], ◌∷◌, length}
use Rattle.cyclotomic.specs.Polynomial.{zeros, plus, scaled, times, x_to, at_power}
use Rattle.cyclotomic.specs.Division.{degree, remainder}
use Rattle.cyclotomic.specs.Laws.Polynomials.{length-plus, length-scaled, length-zeros}
use Rattle.cyclotomic.specs.Laws.Remainders.{length-remainder}
use Rattle.std.proofs.Common.{sym, ◌∙◌}

-- a list of n whole numbers
pub record Value (n : ℕ) : Type 0 where
  pub coefficients : List ℤ
  pub count : length coefficients ≡ n

-- sums and negatives are taken place by place
unfoldable pub value_sum : {n : ℕ} → Value n → Value n → Value n
value_sum u v = record {
  coefficients = plus u.coefficients v.coefficients;
  count = length-plus u.coefficients v.coefficients (u.count ∙ sym v.count) ∙ u.count;
}

unfoldable pub value_multiple : {n : ℕ} → ℤ → Value n → Value n
value_multiple c u = record {
  coefficients = scaled c u.coefficients;
  count = length-scaled c u.coefficients ∙ u.count;
}

abbrev pub value_negative : {n : ℕ} → Value n → Value n
value_negative u = value_multiple (negsuc 0) u

unfoldable pub value_nought : {n : ℕ} → Value n
value_nought {n} = record { coefficients = zeros n; count = length-zeros n }

-- the value for which a polynomial stands: its remainder by m
unfoldable pub value_of : (m : List ℤ) → List ℤ → Value (degree m)
value_of m p = record { coefficients = remainder m p; count = length-remainder m p }

abbrev pub value_one : (m : List ℤ) → Value (degree m)
value_one m = value_of m (pos 1 ∷ [])

-- a product is the product of polynomials, then its remainder by m
unfoldable pub value_product : (m : List ℤ) → Value (degree m) → Value (degree m) → Value (degree m)
value_product m u v = value_of m (times u.coefficients v.coefficients)

-- the power x^v
abbrev pub value_root : (m : List ℤ) → ℕ → Value (degree m)
value_root m v = value_of m (x_to v)

-- the image under t: x is sent to x^t
unfoldable pub value_image : (m : List ℤ) → ℕ → Value (degree m) → Value (degree m)
value_image m t u = value_of m (at_power t u.coefficients)
