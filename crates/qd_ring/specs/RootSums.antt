-- Sums of roots of unity: values by the exponents of their roots (textbook).
use Rattle.std.specs.Prelude.{◌≡◌, ℕ, List, length, map}
use Rattle.algebra.specs.Sums.{sum_list}
use Rattle.cyclotomic.specs.CyclotomicRing.{CyclotomicValue, cyclotomic_ring, root}

-- the sum of the roots of unity with these exponents modulo K
unfoldable pub sum_of_roots : (k : ℕ) → List ℕ → CyclotomicValue k
sum_of_roots k exponents = sum_list (cyclotomic_ring k) (map (λ e. root k e) exponents)

-- the value is a sum of r roots of unity, some of which may be the same
pub record IsSumOfRoots (k r : ℕ) (value : CyclotomicValue k) : Type 0 where
  pub exponents : List ℕ
  pub count : length exponents ≡ r
  pub adds : value ≡ sum_of_roots k exponents
