-- The matrices S, times the order of the group, and T of a twisted quantum double, as functions of two simples, and products of matrices.
use Rattle.std.specs.Prelude.{ℕ, zero, suc, ◌+◌, ◌*◌, ◌==◌, if◌then◌else◌}
use Rattle.algebra.specs.Sums.{sum_below}
use Rattle.cyclotomic.specs.Cyclotomic.{cyclotomic}
use Rattle.cyclotomic.specs.Ring.{value_product, value_nought}
use Rattle.cyclotomic.specs.CyclotomicRing.{CyclotomicValue, cyclotomic_ring, root, conjugate}
use Rattle.transport.specs.Simples.{SimplesOver, count, dimension_at, twist_at}
use Rattle.transport.specs.SSums.{s_sum}

-- an entry for each two indices
abbrev pub Matrix : ℕ → Type 0
Matrix k = ℕ → ℕ → CyclotomicValue k

module _ (k : ℕ) where
  -- the value at i = j, else 0
  abbrev pub at_equal : ℕ → ℕ → CyclotomicValue k → CyclotomicValue k
  at_equal i j u = if i == j then u else value_nought

  -- the sum of m values
  abbrev pub sum_of : ℕ → (ℕ → CyclotomicValue k) → CyclotomicValue k
  sum_of m f = sum_below (cyclotomic_ring k) m f

  -- the product of two values
  abbrev pub times : CyclotomicValue k → CyclotomicValue k → CyclotomicValue k
  times u v = value_product (cyclotomic k) u v

  -- the product of two matrices of size m (textbook)
  abbrev pub product_of : ℕ → Matrix k → Matrix k → Matrix k
  product_of m a b i j = sum_of m (λ l. times (a i l) (b l j))

  -- the transposed conjugate (textbook)
  abbrev pub adjoint : Matrix k → Matrix k
  adjoint a i j = conjugate k (a j i)

-- the sum and the product of the first m numbers
unfoldable pub sum_numbers : ℕ → (ℕ → ℕ) → ℕ
sum_numbers zero f = 0
sum_numbers (suc m) f = sum_numbers m f + f m

unfoldable pub product_numbers : ℕ → (ℕ → ℕ) → ℕ
product_numbers zero f = 1
product_numbers (suc m) f = product_numbers m f * f m

module _ (k : ℕ) (s : SimplesOver) where
  -- n S, the entry at i and j
  abbrev pub s_entry : Matrix k
  s_entry i j = (s_sum k s i j).value

  -- x^t of the simple i
  abbrev pub twist_root : ℕ → CyclotomicValue k
  twist_root i = root k (twist_at k s i)

  -- a matrix times T: its columns are multiplied by the x^t
  abbrev pub by_twists : Matrix k → Matrix k
  by_twists a i j = times k (a i j) (twist_root j)

  -- a matrix times n S
  abbrev pub by_s : Matrix k → Matrix k
  by_s a = product_of k (count k s) a s_entry

  -- a matrix times the transposed conjugate of n S
  abbrev pub by_adjoint : Matrix k → Matrix k
  by_adjoint a = product_of k (count k s) a (adjoint k s_entry)

  -- a matrix times the inverse of T
  abbrev pub by_inverse_twists : Matrix k → Matrix k
  by_inverse_twists a i j = times k (a i j) (conjugate k (twist_root j))

  -- the product of all dimensions
  abbrev pub dimensions_product : ℕ
  dimensions_product = product_numbers (count k s) (dimension_at k s)
