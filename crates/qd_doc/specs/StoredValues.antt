-- Values that are stored by their coefficients that aren't 0, each with its power of x.
use Rattle.std.specs.Prelude.{◌⊎◌, ◌≡◌, ℕ, ◌<◌, ◌^◌, ℤ, pos, List, [], ◌∷◌, ◌++◌, All, fold, length, replicate, slice_index_or, slice_set}
use Rattle.qd_doc.specs.declared.term.Term.{Term}
use Rattle.qd_doc.specs.declared.term.Term.TheVariants.{Small, Great}
use Rattle.qd_doc.specs.Stretches.{AreInOrder, stretches}

-- the power of a term
abbrev pub power_of : Term → ℕ
power_of (Small power coefficient) = power
power_of (Great power place) = power

-- the coefficient of a term; the great ones stand in a list of their own
abbrev pub coefficient_of : List ℤ → Term → ℤ
coefficient_of great (Small power coefficient) = coefficient
coefficient_of great (Great power place) = slice_index_or great place (pos 0)

-- the 42 coefficients of a value by its terms
abbrev pub value_of_terms : List ℤ → List Term → List ℤ
value_of_terms great terms =
    fold (λ cs term. slice_set cs (power_of term) (coefficient_of great term)) (replicate 42 (pos 0)) terms

-- a term of so many great coefficients
abbrev pub IsTermOf : ℕ → Term → Type 0
IsTermOf count (Small power coefficient) = power < 42
IsTermOf count (Great power place) = (power < 42) × (place < count)

-- a term with this power and coefficient was added, or none where the coefficient is 0
abbrev pub AddsTerm : List Term → List Term → List ℤ → ℕ → ℤ → Type 0
AddsTerm old new great power coefficient =
    ((coefficient ≡ pos 0) × (new ≡ old))
    ⊎ ((term : Term) × (new ≡ old ++ term ∷ []) × (power_of term ≡ power) × (coefficient_of great term ≡ coefficient))

-- a value begins at each start
abbrev pub values_of : List ℕ → List Term → List ℤ → List (List ℤ)
values_of starts terms great = stretches (λ start. start) (λ start value. value_of_terms great value) starts terms

-- the terms of values, one value after the other
pub record AreValues (starts : List ℕ) (terms : List Term) (great : List ℤ) : Type 0 where
  pub order : AreInOrder (λ start. start) starts (length terms)
  pub each : All (IsTermOf (length great)) terms
  pub few : length starts < 2 ^ 32
