-- What is said of the answer of an inverse.
use Rattle.prime_field.proofs.Names.{◌≡◌, ◌≢◌, ℕ, ◌*◌, ◌%◌, ◌<◌, true, Option, Some, None, IfSome, IfNone, inl, inr, sym, ◌∙◌, arith, Fits, w32, cases_eq, mul-le, is_modulus, inverse_modulo, modulus_bound, inverse_means, inverse_there, inverse_absent}

-- products of residues fit
pub residues_fit : (q : ℕ) → is_modulus q ≡ true → (a b : ℕ) → a < q → b < q → Fits w32 (a * b)
residues_fit q listed a b a_below b_below = record { fits = omega (arith, mul-le a b 337 337 (omega (arith, modulus_bound q listed)) (omega (arith, modulus_bound q listed))) }

-- an inverse is below q, its product is 1, and it is there exactly where the number isn't 0 modulo q
pub inverse_is : (q : ℕ) → is_modulus q ≡ true → (a : ℕ) (o : Option ℕ) → o ≡ inverse_modulo q a
    → IfSome o (λ b. b < q) × IfSome o (λ b. (a * b) % q ≡ 1) × IfSome o (λ b. a % q ≢ 0) × IfNone o (a % q ≡ 0)
inverse_is q listed a (Some b) e =
    let means = inverse_means q a b (sym e) in
    (means.0, means.1, (λ zero. let none : Some b ≡ None = e ∙ inverse_absent q listed a zero in cc), tt)
inverse_is q listed a None e = (
  tt,
  tt,
  tt,
  elim (cases_eq (a % q) 0) [
    | inl zero ↦ zero
    | inr apart ↦ let there = inverse_there q listed a apart in let some : None ≡ Some there.0 = e ∙ there.1 in absurd cc
  ],
)
