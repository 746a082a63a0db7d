-- Tables of characters with the same rows in another order, and what of a table doesn't depend on the order of its rows.
use Rattle.std.specs.Prelude.{◌≡◌, ℕ, ◌<◌}
use Rattle.twisted.specs.Twist.{TwistedSubgroup}
use Rattle.table_check.specs.Characters.{Characters}
use Rattle.table_check.specs.Good.{IsGood}
use Rattle.root_tables.specs.RootRows.{AreRootRows}

-- as many rows, and row i of the other is row `place i` of the table, by a map of the numbers of rows that `back` takes back
pub record IsReordering {k : ℕ} (table other : Characters k) : Type 0 where
  pub count : other.count ≡ table.count
  pub place : ℕ → ℕ
  pub back : ℕ → ℕ
  pub place_below : (i : ℕ) → i < table.count → place i < table.count
  pub back_below : (i : ℕ) → i < table.count → back i < table.count
  pub back_place : (i : ℕ) → i < table.count → back (place i) ≡ i
  pub place_back : (i : ℕ) → i < table.count → place (back i) ≡ i
  pub same : (i x : ℕ) → i < table.count → other.chi i x ≡ table.chi (place i) x

-- the rows of a good table are good in any order
abbrev pub GoodInAnyOrder : Type 0
GoodInAnyOrder = (k : ℕ) (s : TwistedSubgroup) (table other : Characters k) → IsReordering table other → IsGood s table → IsGood s other

-- and rows of sums of roots of unity are such in any order
abbrev pub RootRowsInAnyOrder : Type 0
RootRowsInAnyOrder = (k : ℕ) (s : TwistedSubgroup) (table other : Characters k) → IsReordering table other → AreRootRows s table → AreRootRows s other
