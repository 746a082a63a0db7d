-- A conjugate as it is kept: as often as its weight says, in sparse form.
use Rattle.modular_st.proofs.Names.{◌≡◌, ◌^◌, ◌<◌, ℕ, true, List, Option, Some, None, IfSome, ◌∙◌, ap₂, is_conductor, cyclotomic, value_product, CyclotomicValue, conjugate, Pair, Monomial, value_of_terms, total_of_terms, SimplesOver, full_character, whole, IsSmall, conjugate_at}
use Rattle.transport.proofs.Wholes.{times_whole}
use Rattle.modular_st.proofs.Smalls.{small_by_terms}

module _ (k : ℕ) (s : SimplesOver) (i : ℕ) (pair : Pair) (number value weighted : CyclotomicValue k)
    (whole_is : number ≡ whole k pair.weight) (value_is : value ≡ conjugate k (full_character k s i pair.g pair.h).value)
    (weighted_is : weighted ≡ value_product (cyclotomic k) number value) where
  conjugate_is : weighted ≡ conjugate_at k s i pair
  conjugate_is = weighted_is ∙ ap₂ (value_product (cyclotomic k)) whole_is value_is ∙ times_whole k pair.weight (conjugate k (full_character k s i pair.g pair.h).value)

  pub kept_value : (answer : Option (List Monomial)) → IfSome answer (λ terms. value_of_terms k terms ≡ weighted)
      → IfSome answer (λ terms. value_of_terms k terms ≡ conjugate_at k s i pair)
  kept_value (Some terms) is = is ∙ conjugate_is
  kept_value None is = tt

  pub kept_small : is_conductor k ≡ true → (answer : Option (List Monomial)) → IfSome answer (λ terms. value_of_terms k terms ≡ weighted)
      → IfSome answer (λ terms. total_of_terms terms < 2 ^ 54) → IfSome answer (λ terms. IsSmall k (conjugate_at k s i pair))
  kept_small entry (Some terms) is few = small_by_terms k entry terms (conjugate_at k s i pair) (is ∙ conjugate_is) few
  kept_small entry None is few = tt
