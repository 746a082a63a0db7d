-- The sum of the products of two rows of sparse values.
use Rattle.std.specs.Prelude.{ℕ, List, [], length, slice_index_or}
use Rattle.cyclotomic.specs.Cyclotomic.{cyclotomic}
use Rattle.cyclotomic.specs.Ring.{value_product}
use Rattle.cyclotomic.specs.CyclotomicRing.{CyclotomicValue}
use Rattle.qd_ring.specs.declared.monomial.Monomial.{Monomial}
use Rattle.qd_ring.specs.SparseValues.{value_of_terms}
use Rattle.qd_ring.specs.Formed.{Formed, given, listed}

module _ (k : ℕ) (left right : List (List Monomial)) where
  -- the product of the values at place q
  abbrev pub product_at : ℕ → CyclotomicValue k
  product_at q = value_product (cyclotomic k) (value_of_terms k (slice_index_or left q [])) (value_of_terms k (slice_index_or right q []))

  -- the listed sum of these
  abbrev pub dot_product : Formed k
  dot_product = listed k (length left) (λ q. given k (product_at q))
