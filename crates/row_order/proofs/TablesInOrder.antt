-- Tables with their rows in the order of the simples are such as those were.
use Rattle.row_order.proofs.Names.{◌≡◌, ℕ, ◌<◌, ℤ, List, length, map, refl, sym, ap, ◌∙◌, subst, zero-add, range_with_len, length-map-range_with_len, get_or-map-range_with_len, fill_by_all, TwistedSubgroup, RowsOver, IsShaped, characters_of, IsGood, AreRootRows, HasRootRows, SimplesOver, no_table, table_at, HasTables, AreSimples, simple_rows, in_order, SimplesInOrder, RootRowsInOrder}
use Rattle.classes.specs.Conjugacy.{representatives, representative_at}
use Rattle.cochain.specs.Cochain.{Cochain, IsCocycle}
use Rattle.slant.specs.Twists.{twist_of as twisted_centraliser}
use Rattle.row_order.proofs.ReorderedRows.{good_in_any_order, root_rows_in_any_order}
use Rattle.row_order.proofs.SimpleRowLaws.{rows_reorder, rows_count, row_width}

-- the tables of t are those of s, with the rows of each class in the order of the simples
pub record AreInOrder (k : ℕ) (s t : SimplesOver) : Type 0 where
  pub cocycle : t.cocycle ≡ s.cocycle
  pub count : length t.tables ≡ length s.tables
  pub table : (c : ℕ) → c < length s.tables → table_at t.tables c ≡ record { over = (table_at s.tables c).over; rows = simple_rows k s c }

-- tables that are listed class by class
pub listed_in_order : (k : ℕ) (s : SimplesOver) (over : ℕ → TwistedSubgroup) (rows : ℕ → List (List (List ℤ))) (n : ℕ) → n ≡ length s.tables
    → ((c : ℕ) → c < n → over c ≡ (table_at s.tables c).over) → ((c : ℕ) → c < n → rows c ≡ simple_rows k s c)
    → map (λ c. record { over = over c; rows = rows c }) (range_with_len 0 n) ≡ (in_order k s).tables
listed_in_order k s over rows n long over_is rows_are =
    fill_by_all ordered (map listed (range_with_len 0 n)) n no_table (length-map-range_with_len listed 0 n)
    (λ c below. get_or-map-range_with_len listed 0 n c c no_table below (zero-add c) ∙ same c below)
    ∙ ap (λ m. map ordered (range_with_len 0 m)) long
  where
    listed : ℕ → RowsOver
    listed c = record { over = over c; rows = rows c }

    ordered : ℕ → RowsOver
    ordered c = record { over = (table_at s.tables c).over; rows = simple_rows k s c }

    same : (c : ℕ) → c < n → listed c ≡ ordered c
    same c below = let o = over_is c below in let r = rows_are c below in λ i. record { over = o i; rows = r i }

pub in_order_are : (k : ℕ) (s : SimplesOver) → AreInOrder k s (in_order k s)
in_order_are k s = record {
  cocycle = refl;
  count = length-map-range_with_len ordered 0 (length s.tables);
  table = λ c below. get_or-map-range_with_len ordered 0 (length s.tables) c c no_table below (zero-add c);
}
  where
    ordered : ℕ → RowsOver
    ordered c = record { over = (table_at s.tables c).over; rows = simple_rows k s c }

module _ (k : ℕ) (s t : SimplesOver) (S : AreSimples k s) (O : AreInOrder k s t) where
  class_there : (c : ℕ) → c < length t.tables → c < length s.tables
  class_there c below = subst (λ n. c < n) O.count below

  has_tables : HasTables t.cocycle t.tables
  has_tables = record {
    count = O.count ∙ S.tables.count ∙ ap (λ (w : Cochain). length (representatives w.group)) (sym O.cocycle);
    over = λ c below.
        ap (λ (table : RowsOver). table.over) (O.table c (class_there c below)) ∙ S.tables.over c (class_there c below)
        ∙ ap (λ (w : Cochain). twisted_centraliser w (representative_at w.group c)) (sym O.cocycle);
  }

  shaped : (c : ℕ) → c < length s.tables → IsShaped k (record { over = (table_at s.tables c).over; rows = simple_rows k s c })
  shaped c below = record {
    conductor = S.conductor;
    multiple = (S.shaped c below).multiple;
    width = λ i i_below. row_width k s S c below i (subst (λ n. i < n) (rows_count k s S c below) i_below);
  }

  good : (c : ℕ) → c < length s.tables → IsGood (table_at s.tables c).over (characters_of k (simple_rows k s c))
  good c below =
      good_in_any_order k (table_at s.tables c).over (characters_of k (table_at s.tables c).rows) (characters_of k (simple_rows k s c)) (rows_reorder k s S c below)
      (S.good c below)

  are_simples : AreSimples k t
  are_simples = record {
    conductor = S.conductor;
    cocycle = subst IsCocycle (sym O.cocycle) S.cocycle;
    tables = has_tables;
    shaped = λ c below. subst (IsShaped k) (sym (O.table c (class_there c below))) (shaped c (class_there c below));
    good = λ c below.
        subst (λ (table : RowsOver). IsGood table.over (characters_of k table.rows)) (sym (O.table c (class_there c below))) (good c (class_there c below));
  }

  root_rows : HasRootRows k s → HasRootRows k t
  root_rows rows c below =
      let there = class_there c below in
      subst (λ (table : RowsOver). AreRootRows table.over (characters_of k table.rows)) (sym (O.table c there))
      (root_rows_in_any_order k (table_at s.tables c).over (characters_of k (table_at s.tables c).rows) (characters_of k (simple_rows k s c)) (rows_reorder k s S c there)
      (rows c there))

pub simples_in_order : SimplesInOrder
simples_in_order k s S = are_simples k s (in_order k s) S (in_order_are k s)

pub root_rows_in_order : RootRowsInOrder
root_rows_in_order k s S rows = root_rows k s (in_order k s) S (in_order_are k s) rows
