-- The least conductor that is a multiple of a number is a conductor, and is a multiple of its factors.
use Rattle.qd_engine.proofs.Names.{◌≡◌, ℕ, ◌*◌, ◌%◌, ◌/◌, true, Some, ap, ◌∙◌, arith, div-add-mod, mul-mod_right, mul_assoc, is_conductor, least_conductor}
use Rattle.cyclotomic.proofs.LeastConductor.{least_is_least}

pub least_is_conductor : (m k : ℕ) → least_conductor m ≡ Some k → (is_conductor k ≡ true) × (k % m ≡ 0)
least_is_conductor m k e = let l = least_is_least m k e in (l.conductor, l.multiple)

-- a multiple of a product is a multiple of its first factor
pub multiple_of_factor : (k m n : ℕ) → k % (m * n) ≡ 0 → k % m ≡ 0
multiple_of_factor k m n e =
    let q = k / (m * n) in
    let parts : k ≡ m * (n * q) = omega (arith, div-add-mod k (m * n), e, mul_assoc m n q) in
    ap (λ i. i % m) parts ∙ mul-mod_right m (n * q)
