-- Euclid's algorithm computes the greatest common divisor.
use Rattle.cyclotomic.proofs.Names.{◌≡◌, ℕ, zero, suc, ◌%◌, ◌≤◌, ◌<◌, refl, arith, IsGcd, IsGcd-from_zero, IsGcd-from_mod, same_from_IsGcd}

-- with at least b steps
unfoldable pub euclid : ℕ → ℕ → ℕ → ℕ
euclid zero a b = a
euclid (suc steps) a zero = a
euclid (suc steps) a (suc b) = euclid steps (suc b) (a % suc b)

pub euclid_means : (steps a b : ℕ) → b ≤ steps → IsGcd a b (euclid steps a b)
unfolding euclid
euclid_means zero a b h = IsGcd-from_zero a b (omega arith)
euclid_means (suc steps) a zero h = IsGcd-from_zero a zero refl
euclid_means (suc steps) a (suc b) h =
    IsGcd-from_mod a (suc b) (euclid steps (suc b) (a % suc b)) (euclid_means steps (suc b) (a % suc b) (omega arith))

-- for t prime to k, Euclid's algorithm on k and t modulo k ends with 1
pub euclid_of_prime : (t k : ℕ) → 0 < k → IsGcd t k 1 → euclid k k (t % k) ≡ 1
euclid_of_prime t k positive prime =
    let small : t % k ≤ k = omega arith in
    same_from_IsGcd t k (euclid k k (t % k)) 1
    (IsGcd-from_mod t k (euclid k k (t % k)) (euclid_means k k (t % k) small)) prime
