-- Places in a cube of numbers, and its law as a test with one reduction.
use Rattle.cochain.proofs.Names.{ℕ, ◌+◌, ◌*◌, ◌<◌, ◌≤◌, arith, mul-le-mul_right, place_below}

pub cube_below : (n g h k : ℕ) → g < n → h < n → k < n → (g * n + h) * n + k < n * n * n
cube_below n g h k g_below h_below k_below =
    let row : g * n + h < n * n = place_below n g h g_below h_below in
    let rows : (g * n + h + 1) * n ≤ n * n * n = mul-le-mul_right n (omega (arith, row)) in
    omega (arith, rows)
