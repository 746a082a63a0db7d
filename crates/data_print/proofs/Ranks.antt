-- The sum of few small ranks.
use Rattle.data_print.proofs.Names.{ℕ, ◌*◌, ◌≤◌, ◌<◌, ◌^◌, List, length, All, arith, sum}
use Rattle.std.proofs.lemmas.List.Sums.{sum_by-le}

pub sum_small : (xs : List ℕ) → length xs ≤ 60 → All (λ x. x ≤ 60) xs → sum xs < 2 ^ 32
sum_small xs few all =
    let most : sum xs ≤ length xs * 60 = sum_by-le (λ x. x) 60 xs all in
    omega arith
