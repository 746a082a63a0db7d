-- The rows of the simples of a class are the rows of its table in another order.
use Rattle.row_order.proofs.Names.{◌≡◌, ℕ, ◌<◌, ◌≤◌, ◌==◌, ℤ, List, [], length, map, get_or, sym, ap, ◌∙◌, subst, eqb-true, zero-add, arith, ⊎_elim, range_with_len, cases_lt, get_or-map, get_or_past, length-map, filter_passes, length-map-range_with_len, get_or-map-range_with_len, CyclotomicValue, cyclotomic_value, array_of, size, RowsOver, characters_of, SimplesOver, Simple, no_simple, table_at, simples_of, AreSimples, IsReordering, simple_rows, RowsOfSimplesReorder}
use Rattle.qd_ring.specs.RowLists.{row_at}
use Rattle.qd_ring.proofs.ProductLaws.{value-array_of}
use Rattle.row_order.proofs.NumbersInOrder.{HasNumbers}
use Rattle.row_order.proofs.ClassSimples.{class_simples, simple_row, rows_by_simples, row_numbers, has_row_numbers}

-- the value of a row of arrays at a place
module _ (k m : ℕ) (value : ℕ → CyclotomicValue k) where
  abbrev arrays : List (List ℤ)
  arrays = map (λ p. array_of (value p)) (range_with_len 0 m)

  array_at : (x : ℕ) → x < m → get_or arrays x [] ≡ array_of (value x)
  array_at x below = get_or-map-range_with_len (λ p. array_of (value p)) 0 m x x [] below (zero-add x)

  no_array : (x : ℕ) → m ≤ x → get_or arrays x [] ≡ []
  no_array x past = get_or_past arrays x [] (let long = length-map-range_with_len (λ p. array_of (value p)) 0 m in omega (arith, long, past))

module _ (k : ℕ) (s : SimplesOver) (S : AreSimples k s) (c : ℕ) (below : c < length s.tables) where
  abbrev table : RowsOver
  table = table_at s.tables c

  abbrev numbers : List ℕ
  numbers = row_numbers k s c below

  has : HasNumbers (length table.rows) numbers
  has = has_row_numbers k s c below

  pub simples_count : length (class_simples k s c) ≡ length table.rows
  simples_count = sym (length-map (class_simples k s c) (λ (a : Simple). a.row)) ∙ has.count

  pub rows_count : length (simple_rows k s c) ≡ length table.rows
  rows_count = ap length (rows_by_simples k s c) ∙ length-map (class_simples k s c) (simple_row k s) ∙ simples_count

  module _ (i : ℕ) (i_below : i < length table.rows) where
    there : i < length (class_simples k s c)
    there = subst (λ n. i < n) (sym simples_count) i_below

    abbrev simple : Simple
    simple = get_or (class_simples k s c) i no_simple

    class_is : simple.class ≡ c
    class_is = eqb-true simple.class c (filter_passes (λ (a : Simple). a.class == c) (simples_of k s.tables) i no_simple there)

    row_is : simple.row ≡ get_or numbers i 0
    row_is = sym (get_or-map (λ (a : Simple). a.row) (class_simples k s c) i no_simple 0 there)

    -- its values as arrays
    pub listed_row : row_at (simple_rows k s c) i ≡ map (λ p. array_of ((characters_of k table.rows).chi (get_or numbers i 0) p)) (range_with_len 0 (size table.over))
    listed_row =
        ap (λ rows. row_at rows i) (rows_by_simples k s c)
        ∙ get_or-map (simple_row k s) (class_simples k s c) i no_simple [] there
        ∙ ap (λ d. let t = table_at s.tables d in map (λ p. array_of ((characters_of k t.rows).chi simple.row p)) (range_with_len 0 (size t.over))) class_is
        ∙ ap (λ r. map (λ p. array_of ((characters_of k table.rows).chi r p)) (range_with_len 0 (size table.over))) row_is

    pub row_width : length (row_at (simple_rows k s c) i) ≡ size table.over
    row_width = ap length listed_row ∙ length-map-range_with_len (λ p. array_of ((characters_of k table.rows).chi (get_or numbers i 0) p)) 0 (size table.over)

    pub same_values : (x : ℕ) → (characters_of k (simple_rows k s c)).chi i x ≡ (characters_of k table.rows).chi (get_or numbers i 0) x
    same_values x =
        ap (λ row. cyclotomic_value k (get_or row x [])) listed_row
        ∙ ⊎_elim
        (λ inside. ap (cyclotomic_value k) (array_at k (size table.over) value x inside) ∙ value-array_of k S.conductor (value x))
        (λ past.
        ap (cyclotomic_value k)
        (no_array k (size table.over) value x past
        ∙ sym (get_or_past (row_at table.rows place) x [] (let wide = (S.shaped c below).width place (has.at_below i i_below) in omega (arith, wide, past)))))
        (cases_lt x (size table.over))
      where
        place : ℕ
        place = get_or numbers i 0

        value : ℕ → CyclotomicValue k
        value p = (characters_of k table.rows).chi place p

  pub rows_reorder : IsReordering (characters_of k table.rows) (characters_of k (simple_rows k s c))
  rows_reorder = record {
    count = rows_count;
    place = λ i. get_or numbers i 0;
    back = has.back;
    place_below = has.at_below;
    back_below = has.back_below;
    back_place = has.back_at;
    place_back = has.at_back;
    same = λ i x i_below. same_values i i_below x;
  }

pub rows_of_simples_reorder : RowsOfSimplesReorder
rows_of_simples_reorder k s S c below = rows_reorder k s S c below
