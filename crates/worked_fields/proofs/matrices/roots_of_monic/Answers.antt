use Rattle.std.proofs.Common.{◌≡◌, ◌%◌, ◌∷◌, [], ◌++◌, ℕ, List, length, length-append, get_or, true, sym, ap, ◌∙◌, subst, refl, arith}
use Rattle.std.proofs.Math.Nat.{mod-eq_of_lt}
use Rattle.std.proofs.lemmas.List.{get_or_push}
use Rattle.prime_field.specs.Moduli.{is_modulus}
use Rattle.prime_field.specs.Polynomials.{HasCoefficient}
use Rattle.prime_field.specs.Laws.Moduli.{modulus_over_one}
use Rattle.worked_fields.proofs.matrices.roots_of_monic.Goals as goal

leading : (q : ℕ) (lower f : List ℕ) → is_modulus q ≡ true → f ≡ lower ++ 1 ∷ [] → HasCoefficient q f
leading q lower f listed e =
    subst (HasCoefficient q) (sym e) (
      length lower,
      omega (arith, length-append lower (1 ∷ [])),
      (λ h. (let one : 1 % q ≡ 1 = mod-eq_of_lt (modulus_over_one q listed) in
          let there : get_or (lower ++ 1 ∷ []) (length lower) 0 ≡ 1 = get_or_push lower 1 0 (length lower) refl in
          let zero_there : 1 % q ≡ 0 = sym (ap (λ x. x % q) there) ∙ h in
          omega arith)),
    )

pub roots-requires : goal.roots-requires
roots-requires c = record { some_coefficient = leading c.args.ring.now.q c.args.lower.now c.in_ok-f.f c.args.ring.now.listed c.in_ok-f.ensures.coefficients }
