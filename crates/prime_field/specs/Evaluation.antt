-- Polynomials with coefficients modulo q, constant term first, and their roots (textbook).
use Rattle.std.specs.Prelude.{ℕ, suc, ◌+◌, ◌-◌, ◌*◌, ◌%◌, ◌==◌, ℤ, pos, negsuc, Bool, List, [], ◌∷◌, map}

-- the number below q that is congruent to a whole number modulo q (Gauss 1801)
unfoldable pub whole_modulo : ℕ → ℤ → ℕ
whole_modulo q (pos n) = n % q
whole_modulo q (negsuc n) = (q - suc n % q) % q

-- the polynomial with whole coefficients, modulo q
abbrev pub reduced : ℕ → List ℤ → List ℕ
reduced q p = map (whole_modulo q) p

-- a0 + a1 r + a2 r^2 + .. modulo q, for the polynomial with coefficients a0, a1, a2, ..
unfoldable pub value_at : ℕ → ℕ → List ℕ → ℕ
value_at q r [] = 0
value_at q r (a ∷ p) = (a + r * value_at q r p) % q

-- r is a root of the polynomial modulo q
abbrev pub is_root : ℕ → List ℕ → ℕ → Bool
is_root q p r = value_at q r p == 0
