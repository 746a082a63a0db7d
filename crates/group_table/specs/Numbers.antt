-- Lists of the numbers below a bound, and of the values of a function there.
use Rattle.std.specs.Prelude.{ℕ, zero, suc, ◌*◌, ◌/◌, ◌%◌, Bool, List, [], ◌∷◌, ◌++◌, map, if◌then◌else◌}
use Rattle.std.specs.List.{range_with_len}

-- the numbers below n that pass the test, ascending
unfoldable pub passing_below : ℕ → (ℕ → Bool) → List ℕ
passing_below zero test = []
passing_below (suc n) test = if test n then passing_below n test ++ n ∷ [] else passing_below n test

-- the values of a function at 0, 1, .., n - 1
abbrev pub tabulated : {A : Type 0} → ℕ → (ℕ → A) → List A
tabulated n at = map at (range_with_len 0 n)

-- its values at each pair of numbers below n, row after row
unfoldable pub by_pairs : ℕ → (ℕ → ℕ → ℕ) → List ℕ
by_pairs n at = tabulated (n * n) (λ i. at (i / n) (i % n))
