-- Two numbers are the same modulo n exactly where their difference is 0 modulo n.
use Rattle.cochain.proofs.Names.{◌≡◌, ℕ, ◌+◌, ◌-◌, ◌*◌, ◌/◌, ◌%◌, ◌<◌, ◌≤◌, ◌↔◌, nat_eq, sym, ap, ◌∙◌, arith, add-mul-mod_self_left, mul-mod_right, div-lt_iff_lt-mul, eqb-true, eq-eqb, same_test}

quotient_small : (n b : ℕ) → 0 < n → b ≤ 2 * n → b / n < 3
quotient_small n b positive small =
    let bound : (b / n < 3) ↔ (b < 3 * n) = div-lt_iff_lt-mul positive in
    bound.1 (omega arith)

-- the difference, with 2 n added so that it is no less than 0
is_multiple : (n a b : ℕ) → 0 < n → b ≤ 2 * n → a % n ≡ b % n → (a + 2 * n - b) % n ≡ 0
is_multiple n a b positive small same =
    let q = a / n + 2 - b / n in
    let few : b / n < 3 = quotient_small n b positive small in
    let whole : q + b / n ≡ a / n + 2 = omega arith in
    let scaled : n * (q + b / n) ≡ n * (a / n + 2) = ap (λ (z : ℕ). n * z) whole in
    let difference : a + 2 * n - b ≡ n * q = omega arith in
    rw difference (mul-mod_right n q)

is_same : (n a b : ℕ) → 0 < n → b ≤ 2 * n → (a + 2 * n - b) % n ≡ 0 → a % n ≡ b % n
is_same n a b positive small multiple =
    let q = (a + 2 * n - b) / n in
    let sides : a + n * 2 ≡ b + n * q = omega arith in
    sym (add-mul-mod_self_left a n 2) ∙ ap (λ (z : ℕ). z % n) sides ∙ add-mul-mod_self_left b n q

pub same_by_difference : (n a b : ℕ) → 0 < n → b ≤ 2 * n → nat_eq ((a + 2 * n - b) % n) 0 ≡ nat_eq (a % n) (b % n)
same_by_difference n a b positive small =
    same_test _ _ (λ t. eq-eqb _ _ (is_same n a b positive small (eqb-true _ _ t))) (λ t. eq-eqb _ _ (is_multiple n a b positive small (eqb-true _ _ t)))
