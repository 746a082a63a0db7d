-- The listed coefficients with a last 1 are those of the cyclotomic polynomial.
use Rattle.prime_field.proofs.Names.{[], ◌∷◌, ◌++◌, pos, nat_eq, sym, ap, ◌∙◌, arith, size_of, cyclotomic_is, reduction_ternary, reduced, is_root}
use Rattle.prime_field.proofs.cyclotomic_root.is_root.Goals as goal

pub monic_value-requires-clause-ternary : goal.monic_value-requires-clause-ternary
monic_value-requires-clause-ternary c = omega (arith, ap size_of c.reduction.ensures, reduction_ternary c.args.conductor c.requires.entry)

pub returns : goal.returns
returns c =
    ap (λ v. nat_eq v 0) c.monic_value.ensures.value
    ∙ ap (λ p. is_root c.args.q (reduced c.args.q p) c.args.r)
    (ap (λ l. l ++ pos 1 ∷ []) c.reduction.ensures ∙ sym (cyclotomic_is c.args.conductor c.requires.entry))
