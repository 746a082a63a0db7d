-- What holds of the entries of S times the order of the group (Coste, Gannon, Ruelle 2000).
use Rattle.std.specs.Prelude.{◌≡◌, ℕ, ◌*◌, ◌<◌, ℤ, List, [], slice_index_or}
use Rattle.cyclotomic.specs.CyclotomicRing.{cyclotomic_value}
use Rattle.qd_ring.specs.RowLists.{row_at}
use Rattle.table_check.specs.Formed.{whole}
use Rattle.transport.specs.Simples.{SimplesOver, count, dimension_at}
use Rattle.transport.specs.Matrices.{Matrix, at_equal, product_of, adjoint}

-- the entries that these lists of coefficients stand for
abbrev pub entries_of : (k : ℕ) → List (List (List ℤ)) → Matrix k
entries_of k rows i j = cyclotomic_value k (slice_index_or (row_at rows i) j [])

module _ (k : ℕ) (s : SimplesOver) (a : Matrix k) where
  -- the entry at i and j is that at j and i
  pub record IsSymmetric : Type 0 where
    pub symmetric : (i j : ℕ) → i < count k s → j < count k s → a i j ≡ a j i

  -- the row of the vacuum holds the dimensions
  pub record HoldsDimensions : Type 0 where
    pub dimensions : (j : ℕ) → j < count k s → a 0 j ≡ whole k (dimension_at k s j)

  -- the product with the transposed conjugate is n n times the identity, with n for the order of the group
  pub record IsUnitary : Type 0 where
    pub unitary : (i j : ℕ) → i < count k s → j < count k s
        → product_of k (count k s) a (adjoint k a) i j ≡ at_equal k i j (whole k (s.cocycle.group.order * s.cocycle.group.order))
