-- Steps of the evaluation of a polynomial modulo q, from its leading coefficient down.
use Rattle.prime_field.proofs.Names.{◌≡◌, ℕ, suc, ◌+◌, ◌-◌, ◌*◌, ◌%◌, ◌≤◌, ◌<◌, List, [], ◌∷◌, ◌++◌, length, drop, get_or, true, false, sym, ap, ◌∙◌, arith, ℤ, pos, negsuc, nat_abs, mod-lt, mod-eq_of_lt, mul-zero, add-zero, drop-cons, drop-length, lt-true, lt-false, lt_z, whole_modulo, reduced, value_at}

-- ---- a coefficient
pub negative_modulo : (q m : ℕ) (c : ℤ) → m ≡ nat_abs c → lt_z c (pos 0) ≡ true → (q - m % q) % q ≡ whole_modulo q c
unfolding whole_modulo
negative_modulo q m (pos n) e negative = absurd (omega (arith, lt-true (pos n) (pos 0) negative))
negative_modulo q m (negsuc n) e negative = ap (λ k. (q - k % q) % q) e

pub natural_modulo : (q m : ℕ) (c : ℤ) → m ≡ nat_abs c → lt_z c (pos 0) ≡ false → m % q ≡ whole_modulo q c
unfolding whole_modulo
natural_modulo q m (pos n) e natural = ap (λ k. k % q) e
natural_modulo q m (negsuc n) e natural = absurd (omega (arith, lt-false (negsuc n) (pos 0) natural))

pub whole_modulo_below : (q : ℕ) (c : ℤ) → 0 < q → whole_modulo q c < q
unfolding whole_modulo
whole_modulo_below q (pos n) positive = mod-lt n positive
whole_modulo_below q (negsuc n) positive = mod-lt (q - suc n % q) positive

-- ---- a value
module _ (q r : ℕ) (low : List ℤ) where
  -- the value of the polynomial with leading coefficient 1 and the lower coefficients from place i on
  abbrev pub value_from : ℕ → ℕ
  value_from i = value_at q r (reduced q (drop i low ++ pos 1 ∷ []))

  pub value_from_end : 1 < q → 1 ≡ value_from (length low)
  unfolding value_at whole_modulo
  value_from_end over_one =
      sym
      (ap (λ l. value_at q r (reduced q (l ++ pos 1 ∷ []))) (drop-length low)
      ∙ ap (λ k. (1 % q + k) % q) (mul-zero r) ∙ ap (λ k. k % q) (add-zero (1 % q) ∙ mod-eq_of_lt over_one) ∙ mod-eq_of_lt over_one)

  pub value_from_step : (i v : ℕ) → 0 < i → i ≤ length low → v ≡ value_from i → (whole_modulo q (get_or low (i - 1) (pos 0)) + r * v) % q ≡ value_from (i - 1)
  unfolding value_at
  value_from_step i v positive within e =
      let next : suc (i - 1) ≡ i = omega arith in
      ap (λ k. (whole_modulo q (get_or low (i - 1) (pos 0)) + r * k) % q) (e ∙ ap value_from (sym next))
      ∙ sym (ap (λ l. value_at q r (reduced q (l ++ pos 1 ∷ []))) (drop-cons low (i - 1) (pos 0) (omega arith)))
