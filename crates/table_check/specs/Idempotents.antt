-- What a good table gives in the twisted group algebra over the cyclotomic ring (textbook): with d_i for the degree of row i and m for the
-- order of the centraliser, the (d_i / m) E_i are orthogonal central idempotents that add up to one, multiplied out.
use Rattle.std.specs.Prelude.{◌≡◌, ◌≢◌, ℕ, ◌<◌, ◌%◌, ◌==◌, true}
use Rattle.algebra.specs.Sums.{sum_below, pick}
use Rattle.group_table.specs.Group.{identity_of}
use Rattle.cyclotomic.specs.Conductors.{is_conductor}
use Rattle.cyclotomic.specs.Cyclotomic.{cyclotomic}
use Rattle.cyclotomic.specs.Ring.{value_product, value_nought}
use Rattle.cyclotomic.specs.CyclotomicRing.{CyclotomicValue, cyclotomic_ring, conjugate}
use Rattle.cyclotomic.proofs.Orthogonality.{x_root}
use Rattle.twisted.specs.Twist.{TwistedSubgroup, size, IsTwist}
use Rattle.twisted.specs.Regular.{rank}
use Rattle.twisted.specs.Algebra.{twisted_product, IsCentral}
use Rattle.table_check.specs.Characters.{Characters}
use Rattle.table_check.specs.Formed.{whole}
use Rattle.table_check.specs.Good.{IsDegree, IsGood}

module _ {k : ℕ} (s : TwistedSubgroup) (table : Characters k) where
  -- E_i: the conjugate of the value of row i, at each place
  abbrev pub row_element : ℕ → ℕ → CyclotomicValue k
  row_element i x = conjugate k (table.chi i x)

  -- d_i, as a value
  abbrev pub row_degree : ℕ → CyclotomicValue k
  row_degree i = table.chi i (identity_of s.group)

  -- as many as the rank, with degrees; central; orthogonal idempotents up to whole factors, none of them 0; and adding up to one
  pub record AreIdempotents (entry : is_conductor k ≡ true) : Type 0 where
    pub count : table.count ≡ rank s
    pub degree : (i : ℕ) → i < table.count → IsDegree k (size s) (row_degree i)
    pub central : (i : ℕ) → i < table.count → IsCentral (cyclotomic_ring k) (x_root k entry) s (row_element i)
    pub idempotent : (i x : ℕ) → i < table.count → x < size s
        → value_product (cyclotomic k) (row_degree i) (twisted_product (cyclotomic_ring k) (x_root k entry) s (row_element i) (row_element i) x)
        ≡ value_product (cyclotomic k) (whole k (size s)) (row_element i x)
    pub orthogonal : (i j x : ℕ) → i < table.count → j < table.count → x < size s → i ≢ j
        → twisted_product (cyclotomic_ring k) (x_root k entry) s (row_element i) (row_element j) x ≡ value_nought
    pub nonzero : (i : ℕ) → i < table.count → row_element i (identity_of s.group) ≢ value_nought
    pub complete : (x : ℕ) → x < size s
        → sum_below (cyclotomic_ring k) table.count (λ i. value_product (cyclotomic k) (row_degree i) (row_element i x))
        ≡ pick (cyclotomic_ring k) (x == identity_of s.group) (whole k (size s))

-- every good table gives such
abbrev pub GoodTablesGiveIdempotents : Type 0
GoodTablesGiveIdempotents =
    (k : ℕ) (entry : is_conductor k ≡ true) (s : TwistedSubgroup) → IsTwist s → k % s.modulus ≡ 0 → (table : Characters k) → IsGood s table
    → AreIdempotents s table entry
