-- The conjugates of a table's values, kept beside it.
use Rattle.std.specs.Prelude.{◌≡◌, ℕ, List, length, map}
use Rattle.std.specs.Global.{Vec}
use Rattle.std.specs.List.{range_with_len}
use Rattle.cyclotomic.specs.CyclotomicRing.{CyclotomicValue, cyclotomic_value, conjugate}
use Rattle.twisted.specs.Twist.{size}
use Rattle.table_check.specs.declared.kept.Kept.{Kept}
use Rattle.table_check.specs.Characters.{Characters, RowsOver, characters_of}

-- for what a list of kept values stands
abbrev pub values_of : (k : ℕ) → List (Kept k) → List (CyclotomicValue k)
values_of k row = map (λ u. cyclotomic_value k u.value.coefficients) row

module _ {k : ℕ} (places : ℕ) (table : Characters k) where
  -- the conjugates of row i, at all places
  abbrev pub conjugate_row : ℕ → List (CyclotomicValue k)
  conjugate_row i = map (λ x. conjugate k (table.chi i x)) (range_with_len 0 places)

  -- those of the first n rows
  abbrev pub conjugate_rows : ℕ → List (List (CyclotomicValue k))
  conjugate_rows n = map conjugate_row (range_with_len 0 n)

-- the conjugates of all values are kept, row after row
abbrev pub AreConjugates : (k : ℕ) → RowsOver → List (Vec (Kept k)) → Type 0
AreConjugates k table kept =
    map (λ row. values_of k row.items) kept ≡ conjugate_rows (size table.over) (characters_of k table.rows) (length table.rows)
