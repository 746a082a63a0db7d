-- Places in a square, and numbers that are listed for each pair.
use Rattle.std.proofs.Common.{◌≡◌, ℕ, zero, suc, ◌+◌, ◌*◌, ◌/◌, ◌%◌, ◌<◌, ◌≤◌, length, get_or, ◌∙◌, arith}
use mathlib.Core.Path.{ap₂}
use Rattle.std.proofs.Math.Nat.{mod-lt, mul-le-mul_right}
use Rattle.std.proofs.lemmas.Nat.{div-mul-add, mod-mul-add, div_below}
use Rattle.std.proofs.lemmas.List.FromFn.{length-map-range_with_len, get_or-map-range_with_len}
use Rattle.group_table.specs.Numbers.{by_pairs}

pub place_below : (n g h : ℕ) → g < n → h < n → g * n + h < n * n
place_below n g h g_below h_below =
    let rows : (g + 1) * n ≤ n * n = mul-le-mul_right n (omega arith) in
    omega (arith, rows)

-- the place i stands in row i / n at place i % n
pub row_below : (n i : ℕ) → i < n * n → i / n < n
row_below zero i below = absurd (omega arith)
row_below (suc n) i below = div_below i (suc n) (suc n) (omega arith) below

pub column_below : (n i : ℕ) → i < n * n → i % n < n
column_below zero i below = absurd (omega arith)
column_below (suc n) i below = mod-lt i (omega arith)

pub length-by_pairs : (n : ℕ) (at : ℕ → ℕ → ℕ) → length (by_pairs n at) ≡ n * n
unfolding by_pairs
length-by_pairs n at = length-map-range_with_len (λ i. at (i / n) (i % n)) 0 (n * n)

pub listed_at : (n : ℕ) (at : ℕ → ℕ → ℕ) (i : ℕ) → i < n * n → get_or (by_pairs n at) i 0 ≡ at (i / n) (i % n)
unfolding by_pairs
listed_at n at i below = get_or-map-range_with_len (λ i. at (i / n) (i % n)) 0 (n * n) i i 0 below (omega arith)

-- the number for the pair g, h stands in row g at place h
pub pair_at : (n : ℕ) (at : ℕ → ℕ → ℕ) (g h : ℕ) → g < n → h < n → get_or (by_pairs n at) (g * n + h) 0 ≡ at g h
pair_at n at g h p q =
    listed_at n at (g * n + h) (place_below n g h p q) ∙ ap₂ at (div-mul-add g n h q) (mod-mul-add g n h q)
