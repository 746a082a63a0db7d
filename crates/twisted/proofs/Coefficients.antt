-- Coefficients of a list of them, after one is put in.
use Rattle.twisted.proofs.Names.{◌≡◌, ℕ, ◌+◌, ◌<◌, cond, nat_eq, List, [], ◌∷◌, length, map, sym, refl, ◌∙◌, arith, inl, inr, cases_eq, eq-eqb, ne_eqb, below_more, All, set, map-set, get_or-set_same, get_or-set_other, length-map, get_or-map, coefficient}

module _ {E A : Type 0} (of : E → A) (nought : A) (xs : List E) where
  pub coefficient-set : (i j : ℕ) (v : E) → i < length xs → coefficient of nought (set xs i v) j ≡ cond (nat_eq i j) (of v) (coefficient of nought xs j)
  coefficient-set i j v below =
      elim (cases_eq i j) [
        | inl same ↦ rw (← same, eq-eqb i i refl, map-set) (get_or-set_same (map of xs) i (of v) nought (rw length-map below))
        | inr other ↦ rw (ne_eqb i j other, map-set) (get_or-set_other (map of xs) i j (of v) nought (λ e. other (sym e)))
      ]

  -- what holds of the coefficients before i, and of the one that is put there
  pub coefficients_more : (f : ℕ → A) (i : ℕ) (v : E) → i < length xs → ((j : ℕ) → j < i → coefficient of nought xs j ≡ f j) → of v ≡ f i
      → (j : ℕ) → j < i + 1 → coefficient of nought (set xs i v) j ≡ f j
  coefficients_more f i v below before here =
      below_more (λ j. coefficient of nought (set xs i v) j ≡ f j) i
      (λ j less. coefficient-set i j v below ∙ rw (ne_eqb i j (λ same. omega arith)) (before j less))
      (coefficient-set i i v below ∙ rw (eq-eqb i i refl) here)

-- where each entry stands for nought, so does each coefficient
pub coefficient_nought : {E A : Type 0} (of : E → A) (nought : A) (xs : List E) → All (λ v. of v ≡ nought) xs → (j : ℕ) → j < length xs → coefficient of nought xs j ≡ nought
coefficient_nought of nought [] all j below = absurd (omega arith)
coefficient_nought of nought (x ∷ xs) all j below = get_or-map of (x ∷ xs) j x nought below ∙ all j x below
