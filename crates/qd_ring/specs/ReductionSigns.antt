-- The lower coefficients of the cyclotomic polynomials of the table are -1, 0 and 1.
use Rattle.std.proofs.Common.{◌≡◌, ℕ, ◌≤◌, ◌<◌, Bool, true, refl, arith, ◌&&◌, nat_le, nat_lt}
use Rattle.std.proofs.lemmas.Bool.Decides.{nat_tests}
use Rattle.std.specs.List.{list_all}
use Rattle.cyclotomic.specs.Conductors.{conductors, is_conductor, phi_of, reductions, reduction_of}
use Rattle.cyclotomic.specs.Fit.{size_of}
use Rattle.cyclotomic.proofs.Tests.{at_each_conductor}
use borrow.Author.Tests.{leb-true}

all_reductions_ternary : list_all (λ (entry : ℕ × ℕ). nat_le (size_of (reduction_of entry.0)) 1) conductors ≡ true
unfolding size_of conductors reductions reduction_of
all_reductions_ternary = refl

pub reduction_ternary : (k : ℕ) → is_conductor k ≡ true → size_of (reduction_of k) ≤ 1
reduction_ternary k entry =
    leb-true (size_of (reduction_of k)) 1 (at_each_conductor (λ j. nat_le (size_of (reduction_of j)) 1) all_reductions_ternary k entry)

-- ---- an entry is at most 120, and at least its phi
is_within : ℕ → Bool
is_within k = nat_le k 120 && nat_le (phi_of k) k && nat_le (phi_of k) 42 && nat_lt 1 (phi_of k)

all_within : list_all (λ (entry : ℕ × ℕ). is_within entry.0) conductors ≡ true
unfolding is_within conductors phi_of
all_within = refl

within_means : (k : ℕ) → is_within k ≡ true → (k ≤ 120) × (phi_of k ≤ k) × (phi_of k ≤ 42) × (1 < phi_of k)
unfolding is_within
within_means k e = grind (arith, nat_tests)

pub conductor_bounds : (k : ℕ) → is_conductor k ≡ true → (k ≤ 120) × (phi_of k ≤ k) × (phi_of k ≤ 42) × (1 < phi_of k)
conductor_bounds k entry = within_means k (at_each_conductor is_within all_within k entry)
