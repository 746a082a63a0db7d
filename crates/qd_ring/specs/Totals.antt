-- A listed sum while it is added up.
use Rattle.std.specs.Prelude.{◌≡◌, ℕ, ◌≤◌, true, map, sum_by}
use Rattle.std.specs.List.{range_with_len}
use Rattle.scan.specs.First.{all_below}
use Rattle.algebra.specs.Sums.{sum_below}
use Rattle.cyclotomic.specs.CyclotomicRing.{CyclotomicValue, cyclotomic_ring}
use Rattle.cyclotomic.specs.Fit.{value_size, greatest_magnitude}
use Rattle.qd_ring.specs.Formed.{Formed}

-- the sum and the sizes of the first n terms, all of which fit, and fit together
pub record IsTotal {k : ℕ} (term : ℕ → Formed k) (n : ℕ) (sum : CyclotomicValue k) (sizes : ℕ) : Type 0 where
  pub fit : all_below n (λ i. (term i).fits) ≡ true
  pub adds : sum ≡ sum_below (cyclotomic_ring k) n (λ i. (term i).value)
  pub sizes_add : sizes ≡ sum_by (λ u. value_size u) (map (λ i. (term i).value) (range_with_len 0 n))
  pub small : sizes ≤ greatest_magnitude
