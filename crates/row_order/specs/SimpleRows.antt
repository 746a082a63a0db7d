-- The rows of the simples of a twisted quantum double, class by class, in the order of the simples.
use Rattle.std.specs.Prelude.{◌≡◌, ℕ, ◌<◌, ◌==◌, ℤ, List, length, map}
use Rattle.std.specs.List.{range_with_len}
use Rattle.group_table.specs.Numbers.{passing_below}
use Rattle.qd_ring.specs.CycArrays.{array_of}
use Rattle.twisted.specs.Twist.{size}
use Rattle.table_check.specs.Characters.{characters_of}
use Rattle.root_tables.specs.RootRows.{HasRootRows}
use Rattle.transport.specs.Simples.{SimplesOver, Simple, table_at, simples_of, count, class_at, over_at, value_at, AreSimples}
use Rattle.row_order.specs.Reordering.{IsReordering}

module _ (k : ℕ) (s : SimplesOver) where
  -- the simples of the class with the number c, in order
  abbrev pub simples_in : ℕ → List ℕ
  simples_in c = passing_below (count k s) (λ i. class_at k s i == c)

  -- the row that the simple i is: its value at each place of the centraliser of its class, as an array of coefficients
  abbrev pub row_of : ℕ → List (List ℤ)
  row_of i = map (λ p. array_of (value_at k s i p)) (range_with_len 0 (size (over_at k s i)))

  -- the rows that the simples of the class with the number c are, in order
  abbrev pub simple_rows : ℕ → List (List (List ℤ))
  simple_rows c = map row_of (simples_in c)

  -- the tables with the rows of each class in that order
  abbrev pub in_order : SimplesOver
  in_order = record {
    cocycle = s.cocycle;
    tables = map (λ c. record { over = (table_at s.tables c).over; rows = simple_rows c }) (range_with_len 0 (length s.tables));
  }

-- those rows are the rows of the table of the class in another order
abbrev pub RowsOfSimplesReorder : Type 0
RowsOfSimplesReorder =
    (k : ℕ) (s : SimplesOver) → AreSimples k s → (c : ℕ) → c < length s.tables
    → IsReordering (characters_of k (table_at s.tables c).rows) (characters_of k (simple_rows k s c))

-- so that the tables in that order are good
abbrev pub SimplesInOrder : Type 0
SimplesInOrder = (k : ℕ) (s : SimplesOver) → AreSimples k s → AreSimples k (in_order k s)

-- rows of sums of roots of unity are such in that order
abbrev pub RootRowsInOrder : Type 0
RootRowsInOrder = (k : ℕ) (s : SimplesOver) → AreSimples k s → HasRootRows k s → HasRootRows k (in_order k s)

-- a simple with no number of its row
abbrev pub without_row : Simple → Simple
without_row a = record a { row = 0 }

-- the simples by those tables are the same, up to the numbers of rows
abbrev pub SameSimplesInOrder : Type 0
SameSimplesInOrder =
    (k : ℕ) (s : SimplesOver) → AreSimples k s → map without_row (simples_of k (in_order k s).tables) ≡ map without_row (simples_of k s.tables)

-- and put into order once more the tables stay as they are
abbrev pub OrderIsKept : Type 0
OrderIsKept = (k : ℕ) (s : SimplesOver) → AreSimples k s → in_order k (in_order k s) ≡ in_order k s
