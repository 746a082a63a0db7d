-- Sparse values: lists of coefficients, each at a power of x.
use Rattle.std.specs.Prelude.{◌≡◌, ◌<◌, ◌≤◌, ◌*◌, ℕ, nat_abs, true, List, map, sum_by, All}
use Rattle.algebra.specs.Sums.{sum_list}
use Rattle.cyclotomic.specs.Conductors.{is_conductor}
use Rattle.cyclotomic.specs.Ring.{value_multiple}
use Rattle.cyclotomic.specs.CyclotomicRing.{CyclotomicValue, cyclotomic_ring, root}
use Rattle.cyclotomic.specs.Fit.{value_size, greatest_magnitude}
use Rattle.qd_ring.specs.declared.monomial.Monomial.{Monomial}

-- the value of a list of terms: the sum of the c x^p
unfoldable pub value_of_terms : (k : ℕ) → List Monomial → CyclotomicValue k
value_of_terms k terms = sum_list (cyclotomic_ring k) (map (λ term. value_multiple term.coefficient (root k term.power)) terms)

-- the sum of the magnitudes of the coefficients
unfoldable pub total_of_terms : List Monomial → ℕ
total_of_terms terms = sum_by (λ term. nat_abs term.coefficient) terms

-- the terms of a value that fits, with its size and their total
pub record IsSparse (k : ℕ) (terms : List Monomial) (size total : ℕ) : Type 0 where
  pub conductor : is_conductor k ≡ true
  pub powers : All (λ term. term.power < k) terms
  pub size_is : size ≡ value_size (value_of_terms k terms)
  pub small : size ≤ greatest_magnitude
  pub total_is : total ≡ total_of_terms terms
  pub spread : total ≤ 42 * size
