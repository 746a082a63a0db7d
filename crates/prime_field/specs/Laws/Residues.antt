-- Multiples, powers and values of polynomials in a ring of residues, as numbers.
use Rattle.std.proofs.Common.{◌≡◌, ℕ, zero, suc, ◌+◌, ◌-◌, ◌*◌, ◌%◌, ◌<◌, List, [], ◌∷◌, sym, ap, ◌∙◌}
use Rattle.std.proofs.Math.Nat.{zero-mod, zero-mul, suc-mul, mul-one, mod-add-mod, add-mod-mod}
use Rattle.std.proofs.lemmas.Nat.{mul-mod_first, mul-mod_second}
use Rattle.std.specs.Prelude.{ℤ, pos, negsuc}
use Rattle.algebra.specs.Structures.{CommRing}
use Rattle.algebra.specs.Below.{Below}
use Rattle.algebra.specs.Residues.{residue, residue_ring}
use Rattle.algebra.specs.Sums.{multiple, power}
use Rattle.algebra.proofs.SumLaws.{multiple_zero, multiple_suc, power_zero, power_suc}
use Rattle.prime_field.specs.WholeNumbers.{whole, polynomial_at}
use Rattle.prime_field.specs.Evaluation.{whole_modulo, reduced, value_at}
use Rattle.prime_field.specs.Laws.Moduli.{power_modulo}

module _ (q : ℕ) (positive : 0 < q) where
  abbrev ring : CommRing (Below q)
  ring = residue_ring q positive

  pub multiple_value : (n : ℕ) (x : Below q) → (multiple ring n x).value ≡ (n * x.value) % q
  multiple_value zero x = ap (λ y. y.value) (multiple_zero ring x) ∙ ap (λ n. n % q) (sym (zero-mul x.value))
  multiple_value (suc n) x =
      ap (λ y. y.value) (multiple_suc ring n x) ∙ ap (λ v. (v + x.value) % q) (multiple_value n x)
      ∙ mod-add-mod (n * x.value) q x.value ∙ ap (λ v. v % q) (sym (suc-mul n x.value))

  pub power_value : (x : Below q) (n : ℕ) → (power ring x n).value ≡ power_modulo q x.value n
  unfolding power_modulo
  power_value x zero = ap (λ y. y.value) (power_zero ring x)
  power_value x (suc n) = ap (λ y. y.value) (power_suc ring x n) ∙ ap (λ v. v * x.value % q) (power_value x n)

  copies_of_one : (n : ℕ) → (multiple ring n ring.one).value ≡ n % q
  copies_of_one n = multiple_value n ring.one ∙ mul-mod_second n 1 q ∙ ap (λ v. v % q) (mul-one n)

  pub whole_value : (c : ℤ) → (whole ring c).value ≡ whole_modulo q c
  unfolding whole whole_modulo
  whole_value (pos n) = copies_of_one n
  whole_value (negsuc n) = ap (λ v. (q - v) % q) (copies_of_one (suc n))

  -- the value of a polynomial at a residue is that of its reduced coefficients
  pub polynomial_value : (r : ℕ) (p : List ℤ) → (polynomial_at ring (residue q positive r) p).value ≡ value_at q r (reduced q p)
  unfolding polynomial_at value_at
  polynomial_value r [] = zero-mod q
  polynomial_value r (a ∷ p) =
      let v = (polynomial_at ring (residue q positive r) p).value in
      add-mod-mod ((whole ring a).value) (r % q * v) q
      ∙ ap (λ w. (w + r % q * v) % q) (whole_value a)
      ∙ sym (add-mod-mod (whole_modulo q a) (r % q * v) q)
      ∙ ap (λ w. (whole_modulo q a + w) % q) (mul-mod_first r v q)
      ∙ add-mod-mod (whole_modulo q a) (r * v) q
      ∙ ap (λ w. (whole_modulo q a + r * w) % q) (polynomial_value r p)
