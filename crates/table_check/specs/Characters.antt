-- Tables of characters: rows of values of the cyclotomic ring of conductor K, each with a value for each place of a twisted
-- centraliser.
use Rattle.std.specs.Prelude.{◌≡◌, ℕ, ◌<◌, ◌%◌, true, ℤ, List, [], length, slice_index_or}
use Rattle.cyclotomic.specs.CyclotomicRing.{CyclotomicValue, cyclotomic_value}
use Rattle.cyclotomic.specs.Conductors.{is_conductor}
use Rattle.qd_ring.specs.RowLists.{row_at}
use Rattle.twisted.specs.Twist.{TwistedSubgroup, size}

-- how many rows there are, and chi_i(x), the value of row i at the place x
pub record Characters (k : ℕ) : Type 0 where
  pub count : ℕ
  pub chi : ℕ → ℕ → CyclotomicValue k

-- rows of values, each value the list of its coefficients, and the twisted centraliser that they are over
pub record RowsOver : Type 0 where
  pub over : TwistedSubgroup
  pub rows : List (List (List ℤ))

-- K is a conductor and a multiple of the modulus, and each row has a value for each place
pub record IsShaped (k : ℕ) (table : RowsOver) : Type 0 where
  pub conductor : is_conductor k ≡ true
  pub multiple : k % table.over.modulus ≡ 0
  pub width : (i : ℕ) → i < length table.rows → length (row_at table.rows i) ≡ size table.over

-- the table for which rows of values stand
abbrev pub characters_of : (k : ℕ) → List (List (List ℤ)) → Characters k
characters_of k rows = record {
  count = length rows;
  chi = λ i x. cyclotomic_value k (slice_index_or (row_at rows i) x []);
}
