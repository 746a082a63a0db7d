-- Residues: the powers of a root, inverses and products.
use Rattle.char_lift.proofs.Names.{◌≡◌, ℕ, zero, suc, ◌+◌, ◌*◌, ◌%◌, ◌<◌, ◌≤◌, List, [], ◌∷◌, ◌++◌, length, get_or, Option, Some, None, refl, sym, ap, ◌∙◌, inl, inr, arith, length-append, add-one, mod-lt, get_or-append, get_or-append_seam, cases_eq, mul-mod_first, IfSome, unwrap_or, power_modulo, ◌/◌, mul-div-le, mul-le-mul_right, ListsPowers}

pub power-zero : (q z : ℕ) → power_modulo q z 0 ≡ 1 % q
unfolding power_modulo
power-zero q z = refl

pub power-suc : (q z e : ℕ) → power_modulo q z (e + 1) ≡ power_modulo q z e * z % q
unfolding power_modulo
power-suc q z e = ap (power_modulo q z) (add-one e)

pub power_below : (q z e : ℕ) → 0 < q → power_modulo q z e < q
unfolding power_modulo
power_below q z zero positive = mod-lt 1 positive
power_below q z (suc e) positive = mod-lt (power_modulo q z e * z) positive

-- ---- the table of powers
pub no_powers : (q z : ℕ) → ListsPowers q z 0 []
no_powers q z = record { count = refl; each = λ e h. absurd (omega arith) }

pub one_power_more : (q z n p : ℕ) (powers more : List ℕ) → ListsPowers q z n powers → more ≡ powers ++ p ∷ [] → p ≡ power_modulo q z n → ListsPowers q z (n + 1) more
one_power_more q z n p powers more listed added is = record {
  count = omega (arith, ap length added, length-append powers (p ∷ []), listed.count);
  each = λ e h. ap (λ xs. get_or xs e 0) added ∙ elim (cases_eq e n) [
    | inl here ↦ ap (λ j. get_or (powers ++ p ∷ []) j 0) (here ∙ sym listed.count) ∙ get_or-append_seam powers p [] 0 ∙ is ∙ ap (power_modulo q z) (sym here)
    | inr apart ↦ get_or-append powers (p ∷ []) 0 e (omega (arith, apart, listed.count)) ∙ listed.each e (omega (arith, apart))
  ];
}

-- an exponent modulo N, as one modulo K, is at most K
pub exponent_at_most : (v n k : ℕ) → v ≤ n → v * (k / n) ≤ k
exponent_at_most v n k h = omega (arith, mul-le-mul_right (k / n) h, mul-div-le k n)

-- products of three
pub product_of_three : (q a b c : ℕ) → ((a * b) % q * c) % q ≡ (a * b * c) % q
product_of_three q a b c = mul-mod_first (a * b) c q

-- an inverse, or 0, is below q
pub inverse_or_zero : (q : ℕ) (o : Option ℕ) → 0 < q → IfSome o (λ b. b < q) → unwrap_or o 0 < q
inverse_or_zero q (Some b) positive below = below
inverse_or_zero q None positive below = positive
