-- The simples of a twisted quantum double: all rows of the tables of characters of its classes, in order (Coste, Gannon, Ruelle 2000;
-- the order is this project's). Classes, rows and simples are counted from 0.
use Rattle.std.specs.Prelude.{◌≡◌, ℕ, zero, suc, ◌*◌, ◌<◌, Bool, true, not, ◌&&◌, ◌==◌, ℤ, List, [], ◌∷◌, ◌++◌, length, map, slice_index_or, unwrap_or, if◌then◌else◌}
use Rattle.std.specs.List.{range_with_len}
use Rattle.std.specs.declared.cmp.Ordering.{Ordering}
use Rattle.std.specs.Ordering.{nat_cmp, int_cmp, bool_cmp, ordering_then, is_lt}
use Rattle.std.specs.Cmp.Lexicographic.{slice_cmp}
use Rattle.classes.specs.Conjugacy.{representatives, representative_at, members_of}
use Rattle.cochain.specs.Cochain.{Cochain, IsCocycle}
use Rattle.cyclotomic.specs.Conductors.{is_conductor}
use Rattle.cyclotomic.specs.Cyclotomic.{cyclotomic}
use Rattle.cyclotomic.specs.Ring.{value_one}
use Rattle.cyclotomic.specs.CyclotomicRing.{CyclotomicValue}
use Rattle.twisted.specs.Twist.{TwistedSubgroup, size}
use Rattle.group_table.specs.Group.{identity_of}
use Rattle.table_check.specs.Characters.{Characters, RowsOver, IsShaped, characters_of}
use Rattle.table_check.specs.Check.{degree_of, is_vacuum, twist_of}
use Rattle.table_check.specs.Good.{IsGood}
use Rattle.slant.specs.Twists.{twist_of as twisted_centraliser}

-- a cocycle, and a table for each class of its group, in the order of the classes
pub record SimplesOver : Type 0 where
  pub cocycle : Cochain
  pub tables : List RowsOver

-- a simple: the numbers of its class and of its row in the table of that class, with what simples are compared by besides: whether it is
-- another than the vacuum, its degree, and the coefficients of its values, place after place
pub record Simple : Type 0 where
  pub other : Bool
  pub class : ℕ
  pub degree : ℕ
  pub values : List (List ℤ)
  pub row : ℕ

-- the vacuum first, then by class, then by degree, then by all coefficients as whole numbers. The rows of a good table differ, so that
-- the number of the row decides nothing
abbrev pub compare : Simple → Simple → Ordering
compare a b =
    ordering_then (bool_cmp a.other b.other)
    (ordering_then (nat_cmp a.class b.class)
    (ordering_then (nat_cmp a.degree b.degree) (ordering_then (slice_cmp (slice_cmp int_cmp) a.values b.values) (nat_cmp a.row b.row))))

-- a list in ascending order: each element is put before the first that isn't less
unfoldable pub insert : Simple → List Simple → List Simple
insert a [] = a ∷ []
insert a (b ∷ rest) = if is_lt (compare b a) then b ∷ insert a rest else a ∷ b ∷ rest

unfoldable pub ascending : List Simple → List Simple
ascending [] = []
ascending (a ∷ rest) = insert a (ascending rest)

-- met at no class and no simple
abbrev pub no_table : RowsOver
no_table = record { over = record { at = 0; elements = []; group = record { order = 0; entries = [] }; modulus = 0; phases = [] }; rows = [] }

abbrev pub no_simple : Simple
no_simple = record { other = true; class = 0; degree = 0; values = []; row = 0 }

-- the table of the class c
abbrev pub table_at : List RowsOver → ℕ → RowsOver
table_at tables c = slice_index_or tables c no_table

module _ (k : ℕ) where
  -- row r of the table of the class c, as a simple. The vacuum is the row of ones over the class of the identity, which is the first
  abbrev pub simple_of : ℕ → RowsOver → ℕ → Simple
  simple_of c table r = record {
    other = not ((c == 0) && is_vacuum table.over (characters_of k table.rows) r);
    class = c;
    degree = unwrap_or (degree_of k (size table.over) ((characters_of k table.rows).chi r (identity_of table.over.group))) 0;
    values = map (λ p. ((characters_of k table.rows).chi r p).coefficients) (range_with_len 0 (size table.over));
    row = r;
  }

  -- all rows of the table of the class c
  abbrev pub rows_of : ℕ → RowsOver → List Simple
  rows_of c table = map (simple_of c table) (range_with_len 0 (length table.rows))

  -- all rows of the tables of the classes below c
  unfoldable pub rows_below : ℕ → List RowsOver → List Simple
  rows_below zero tables = []
  rows_below (suc c) tables = rows_below c tables ++ rows_of c (table_at tables c)

  -- the simples, in order
  unfoldable pub simples_of : List RowsOver → List Simple
  simples_of tables = ascending (rows_below (length tables) tables)

module _ (k : ℕ) (s : SimplesOver) where
  -- how many simples there are
  abbrev pub count : ℕ
  count = length (simples_of k s.tables)

  -- the simple i
  abbrev pub simple_at : ℕ → Simple
  simple_at i = slice_index_or (simples_of k s.tables) i no_simple

  -- the number of its class
  abbrev pub class_at : ℕ → ℕ
  class_at i = (simple_at i).class

  -- the twisted centraliser of its class, and the characters over it
  abbrev pub over_at : ℕ → TwistedSubgroup
  over_at i = (table_at s.tables (class_at i)).over

  abbrev pub characters_at : ℕ → Characters k
  characters_at i = characters_of k (table_at s.tables (class_at i)).rows

  -- its degree d_i
  abbrev pub degree_at : ℕ → ℕ
  degree_at i = (simple_at i).degree

  -- its dimension: the size of its class times its degree (textbook)
  abbrev pub dimension_at : ℕ → ℕ
  dimension_at i = length (members_of s.cocycle.group (representative_at s.cocycle.group (class_at i))) * degree_at i

  -- its twist: the least t below K with chi_i(a) = d_i x^t (Coste, Gannon, Ruelle 2000)
  abbrev pub twist_at : ℕ → ℕ
  twist_at i = unwrap_or (twist_of (over_at i) (characters_at i) (simple_at i).row) 0

  -- its value at the place p of the centraliser
  abbrev pub value_at : ℕ → ℕ → CyclotomicValue k
  value_at i p = (characters_at i).chi (simple_at i).row p

  -- the simple i is the vacuum: its class is that of the identity, which is the first, and all its values are 1
  pub record IsVacuumAt (i : ℕ) : Type 0 where
    pub class : class_at i ≡ 0
    pub representative : representative_at s.cocycle.group (class_at i) ≡ identity_of s.cocycle.group
    pub values : (p : ℕ) → p < size (over_at i) → value_at i p ≡ value_one (cyclotomic k)

-- the classes of the cocycle's group have one table each, in order, over the centraliser of the representative with the slant product
pub record HasTables (w : Cochain) (tables : List RowsOver) : Type 0 where
  pub count : length tables ≡ length (representatives w.group)
  pub over : (c : ℕ) → c < length tables → (table_at tables c).over ≡ twisted_centraliser w (representative_at w.group c)

-- simples of a cocycle by good tables
pub record AreSimples (k : ℕ) (s : SimplesOver) : Type 0 where
  pub conductor : is_conductor k ≡ true
  pub cocycle : IsCocycle s.cocycle
  pub tables : HasTables s.cocycle s.tables
  pub shaped : (c : ℕ) → c < length s.tables → IsShaped k (table_at s.tables c)
  pub good : (c : ℕ) → c < length s.tables → IsGood (table_at s.tables c).over (characters_of k (table_at s.tables c).rows)
