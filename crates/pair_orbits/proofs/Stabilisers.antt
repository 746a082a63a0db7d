-- The conjugates of a pair, times the elements that carry it to itself, are as many as the group has elements.
use Rattle.pair_orbits.proofs.Names.{◌≡◌, ℕ, ◌*◌, ◌/◌, ◌<◌, length, sym, ap, ◌∙◌, arith, inl, inr, mul-div_cancel, zero-mul, mul_comm, cases_lt, Table, IsGroup, conjugate_pair, are_conjugate, conjugates_of, fixing}
use Rattle.classes.proofs.Orbits as orbits
use Rattle.pair_orbits.proofs.Actions.{order_positive, pairs_action}

module _ (t : Table) (G : IsGroup t) where
  -- the conjugates and the elements that carry it to itself
  pub orbit_equation : (p : ℕ) → p < t.order * t.order → length (conjugates_of t p) * length (fixing t p) ≡ t.order
  unfolding conjugates_of fixing are_conjugate
  orbit_equation p p_below = orbits.orbit_equation t G (t.order * t.order) (conjugate_pair t) (pairs_action t G) p p_below

  -- a factor of the order is positive
  factor_positive : (a b : ℕ) → a * b ≡ t.order → (a ≡ 0 → a * b ≡ 0) → 0 < a
  factor_positive a b equation none = elim (cases_lt 0 a) [
    | inl there ↦ there
    | inr nothing ↦ absurd (let nought = none (omega (arith, nothing)) in omega (arith, equation, nought, order_positive t G))
  ]

  -- some element carries a pair to itself, and a pair has some conjugate
  pub fixing_positive : (p : ℕ) → p < t.order * t.order → 0 < length (fixing t p)
  fixing_positive p below =
      factor_positive (length (fixing t p)) (length (conjugates_of t p))
      (mul_comm (length (fixing t p)) (length (conjugates_of t p)) ∙ orbit_equation p below)
      (λ none. ap (λ m. m * length (conjugates_of t p)) none ∙ zero-mul (length (conjugates_of t p)))

  pub conjugates_positive : (p : ℕ) → p < t.order * t.order → 0 < length (conjugates_of t p)
  conjugates_positive p below =
      factor_positive (length (conjugates_of t p)) (length (fixing t p)) (orbit_equation p below)
      (λ none. ap (λ m. m * length (fixing t p)) none ∙ zero-mul (length (fixing t p)))

  -- the number of conjugates as a quotient
  pub orbit_quotient : (p : ℕ) → p < t.order * t.order → t.order / length (fixing t p) ≡ length (conjugates_of t p)
  orbit_quotient p below =
      ap (λ n. n / length (fixing t p)) (sym (orbit_equation p below)) ∙ mul-div_cancel (length (conjugates_of t p)) (fixing_positive p below)
