-- Each modulus is a prime, and the residues modulo it are a field.
use Rattle.prime_field.proofs.Names.{◌≡◌, ℕ, ◌%◌, true, Bool, refl, sym, ap, ◌∙◌, arith, nat_tests, ◌⊎◌, inl, inr, cases_eq, cases_order, mod-eq_of_lt, ◌==◌, ◌||◌, not, list_all, all_below, Below, below_equal, all_below_means, moduli, is_modulus, field, at_each_modulus, modulus_over_one, modulus_positive, inverse_unique, nought_value, value_nought, residue_product}

-- d is 1, or doesn't divide q
is_no_divisor : ℕ → ℕ → Bool
is_no_divisor q d = not (q % d == 0) || (d == 1)

all_primes : list_all (λ q. all_below q (is_no_divisor q)) moduli ≡ true
unfolding is_no_divisor all_below moduli
all_primes = refl

divisor_is_one : (q d : ℕ) → is_no_divisor q d ≡ true → q % d ≡ 0 → d ≡ 1
unfolding is_no_divisor
divisor_is_one q d test divides = grind (arith, nat_tests)

module _ (q : ℕ) (listed : is_modulus q ≡ true) where
  -- only 1 and q divide q
  pub modulus_prime : (d : ℕ) → q % d ≡ 0 → (d ≡ 1) ⊎ (d ≡ q)
  modulus_prime d divides = elim (cases_order d q) [
    | inl itself ↦ inr itself
    | inr (inl less) ↦
        inl (divisor_is_one q d (all_below_means q (is_no_divisor q) (at_each_modulus (λ m. all_below m (is_no_divisor m)) all_primes q listed) d less) divides)
    | inr (inr greater) ↦
        let whole : q ≡ 0 = sym (mod-eq_of_lt greater) ∙ divides in
        absurd (omega (arith, whole, modulus_positive q listed))
  ]

  -- one of two factors of nought is nought
  pub product_nought : (x y : Below q) → (field q listed).mul x y ≡ (field q listed).nought → (x ≡ (field q listed).nought) ⊎ (y ≡ (field q listed).nought)
  product_nought x y e = elim (cases_eq x.value 0) [
    | inl zero_x ↦ inl (value_nought q listed x zero_x)
    | inr apart ↦ inr (residue_product q listed x y e (λ z. apart (nought_value q listed x z)))
  ]

  -- a residue has at most one inverse
  pub one_inverse : (x y z : Below q) → (field q listed).mul x y ≡ (field q listed).one → (field q listed).mul x z ≡ (field q listed).one → y ≡ z
  one_inverse x y z e f =
      let one_value : 1 % q ≡ 1 = mod-eq_of_lt (modulus_over_one q listed) in
      below_equal y z (inverse_unique q listed x.value y.value z.value y.below z.below (ap (λ u. u.value) e ∙ one_value) (ap (λ u. u.value) f ∙ one_value))
