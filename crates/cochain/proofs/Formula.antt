-- Exponents that a formula gives for each triple.
use Rattle.cochain.proofs.Names.{◌≡◌, ℕ, zero, suc, ◌+◌, ◌*◌, ◌/◌, ◌%◌, ◌<◌, length, get_or, ap, ◌∙◌, arith, mod-lt, div-mul-add, mod-mul-add, div_below, exponents_by}
use Rattle.std.proofs.lemmas.List.FromFn.{length-map-range_with_len, get_or-map-range_with_len}
use Rattle.cochain.proofs.Cube.{cube_below}

positive_of : (n i : ℕ) → i < n * n * n → 0 < n
positive_of zero i below = absurd (omega arith)
positive_of (suc n) i below = omega arith

-- the coordinates of a place in a cube
pub column_below : (n i : ℕ) → i < n * n * n → i % n < n
column_below n i below = mod-lt i (positive_of n i below)

pub row_below : (n i : ℕ) → i < n * n * n → i / n % n < n
row_below n i below = mod-lt (i / n) (positive_of n i below)

pub edge_below : (n i : ℕ) → i < n * n * n → i / n / n < n
edge_below n i below = let positive = positive_of n i below in div_below (i / n) n n positive (div_below i n (n * n) positive below)

-- the exponent of a triple stands at its place
pub exponent_at : (n g h k : ℕ) (at : ℕ → ℕ → ℕ → ℕ) → g < n → h < n → k < n → get_or (exponents_by n at) ((g * n + h) * n + k) 0 ≡ at g h k
exponent_at n g h k at p q r =
    let place = (g * n + h) * n + k in
    let row : place / n ≡ g * n + h = div-mul-add (g * n + h) n k r in
    let first : place / n / n ≡ g = ap (λ z. z / n) row ∙ div-mul-add g n h q in
    let second : place / n % n ≡ h = ap (λ z. z % n) row ∙ mod-mul-add g n h q in
    get_or-map-range_with_len (λ i. at (i / n / n) (i / n % n) (i % n)) 0 (n * n * n) place place 0 (cube_below n g h k p q r) (omega arith)
    ∙ rw (first, second, mod-mul-add (g * n + h) n k r) (λ i. at g h k)

pub length-exponents_by : (n : ℕ) (at : ℕ → ℕ → ℕ → ℕ) → length (exponents_by n at) ≡ n * n * n
length-exponents_by n at = length-map-range_with_len (λ i. at (i / n / n) (i / n % n) (i % n)) 0 (n * n * n)

-- what holds of the coordinates of a place, and of the list
pub ruleset cube_places = (edge_below, row_below, column_below)
