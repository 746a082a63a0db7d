-- Tables with their rows in the order of the simples have the same simples.
use Rattle.row_order.proofs.Names.{◌≡◌, ℕ, zero, suc, ◌<◌, ◌≤◌, false, not, ◌&&◌, ◌==◌, List, [], ◌∷◌, ◌++◌, length, map, get_or, refl, sym, ap, ◌∙◌, subst, arith, fun_ext, range_with_len, IsPermutation, map-append, length-map, get_or-map, fill_by_all, IsPermutation-refl, IsPermutation-trans, IsPermutation-append, IsPermutation-map, identity_of, CyclotomicValue, TwistedSubgroup, size, Characters, RowsOver, SimplesOver, Simple, no_simple, table_at, simple_of, rows_of, rows_below, simples_of, ascending, AreSimples, less, ascending_permutes, ascending_ascends, put_in_order, rows_below-zero, rows_below-suc, simple_rows, without_row, in_order, SameSimplesInOrder}
use Rattle.std.specs.Prelude.{unwrap_or}
use Rattle.std.specs.declared.cmp.Ordering.{Ordering}
use Rattle.std.specs.declared.cmp.Ordering.TheVariants.{Less, Equal, Greater}
use Rattle.std.specs.Ordering.{nat_cmp, int_cmp, bool_cmp, ordering_then, is_lt}
use Rattle.std.specs.Cmp.Lexicographic.{slice_cmp}
use Rattle.table_check.specs.Check.{degree_of, is_vacuum}
use Rattle.transport.proofs.SortedLists.{Above, Ascends}
use Rattle.row_order.proofs.ClassSimples.{row_numbers, numbers_permute, has_row_numbers}
use Rattle.row_order.proofs.SimpleRowLaws.{rows_count, same_values}
use Rattle.row_order.proofs.TablesInOrder.{AreInOrder, in_order_are}

-- ---- simples in ascending order ascend without the numbers of their rows
not_less : (o p q : Ordering) → is_lt (ordering_then o p) ≡ false → is_lt q ≡ false → is_lt (ordering_then o q) ≡ false
not_less Less p q h k = h
not_less Equal p q h k = k
not_less Greater p q h k = refl

drop_last : (o p q r l : Ordering) → is_lt (ordering_then o (ordering_then p (ordering_then q (ordering_then r l)))) ≡ false
    → is_lt (ordering_then o (ordering_then p (ordering_then q (ordering_then r Equal)))) ≡ false
drop_last Less p q r l h = absurd cc
drop_last Greater p q r l h = refl
drop_last Equal Less q r l h = absurd cc
drop_last Equal Greater q r l h = refl
drop_last Equal Equal Less r l h = absurd cc
drop_last Equal Equal Greater r l h = refl
drop_last Equal Equal Equal Less l h = absurd cc
drop_last Equal Equal Equal Greater l h = refl
drop_last Equal Equal Equal Equal l h = refl

still_not_less : (a b : Simple) → less a b ≡ false → less (without_row a) (without_row b) ≡ false
still_not_less a b h =
    drop_last (bool_cmp a.other b.other) (nat_cmp a.class b.class) (nat_cmp a.degree b.degree) (slice_cmp (slice_cmp int_cmp) a.values b.values) (nat_cmp a.row b.row) h

still_above : (a : Simple) (xs : List Simple) → Above less a xs → Above less (without_row a) (map without_row xs)
still_above a [] h = tt
still_above a (b ∷ rest) h = (still_not_less b a h.0, still_above a rest h.1)

still_ascends : (xs : List Simple) → Ascends less xs → Ascends less (map without_row xs)
still_ascends [] h = tt
still_ascends (a ∷ rest) h = (still_above a rest h.0, still_ascends rest h.1)

-- so they are the rows without their numbers, put into order
in_place : (k : ℕ) (tables : List RowsOver) (rows : List Simple) → IsPermutation rows (map without_row (rows_below k (length tables) tables))
    → map without_row (simples_of k tables) ≡ ascending rows
unfolding simples_of
in_place k tables rows permutes =
    let listed = rows_below k (length tables) tables in
    put_in_order rows (map without_row (ascending listed))
    (IsPermutation-trans rows (map without_row listed) (map without_row (ascending listed)) permutes
    (IsPermutation-map without_row listed (ascending listed) (ascending_permutes listed)))
    (still_ascends (ascending listed) (ascending_ascends listed))

-- ---- a row of characters as a simple of the class c without the number of its row
abbrev simple_with : (k : ℕ) → ℕ → TwistedSubgroup → (ℕ → CyclotomicValue k) → Simple
simple_with k c over row =
    let alone : Characters k = record { count = 1; chi = λ i. row } in
    record {
      other = not ((c == 0) && is_vacuum over alone 0);
      class = c;
      degree = unwrap_or (degree_of k (size over) (row (identity_of over.group))) 0;
      values = map (λ p. (row p).coefficients) (range_with_len 0 (size over));
      row = 0;
    }

map_map : (f : ℕ → Simple) (xs : List ℕ) → map without_row (map f xs) ≡ map (λ r. without_row (f r)) xs
map_map f [] = refl
map_map f (x ∷ xs) = ap (λ l. without_row (f x) ∷ l) (map_map f xs)

map_below : (f g : ℕ → Simple) (n : ℕ) (xs : List ℕ) → length xs ≡ n → ((i : ℕ) → i < n → f i ≡ g (get_or xs i 0)) → map f (range_with_len 0 n) ≡ map g xs
map_below f g n xs long h =
    sym (fill_by_all f (map g xs) n no_simple (length-map xs g ∙ long) (λ i below. get_or-map g xs i 0 no_simple (subst (λ m. i < m) (sym long) below) ∙ sym (h i below)))

module _ (k : ℕ) (s t : SimplesOver) (S : AreSimples k s) (O : AreInOrder k s t) where
  rows_permute : (c : ℕ) → c < length s.tables → IsPermutation (map without_row (rows_of k c (table_at s.tables c))) (map without_row (rows_of k c (table_at t.tables c)))
  rows_permute c below =
      subst (λ (table : RowsOver). IsPermutation (map without_row (rows_of k c (table_at s.tables c))) (map without_row (rows_of k c table))) (sym (O.table c below))
      (subst (λ xs. IsPermutation (map without_row (rows_of k c table)) xs) (sym listed)
      (subst (λ xs. IsPermutation xs (map row numbers)) (sym (map_map (simple_of k c table) (range_with_len 0 (length table.rows))))
      (IsPermutation-map row (range_with_len 0 (length table.rows)) numbers (numbers_permute k s c below))))
    where
      table : RowsOver
      table = table_at s.tables c

      ordered : RowsOver
      ordered = record { over = table.over; rows = simple_rows k s c }

      numbers : List ℕ
      numbers = row_numbers k s c below

      row : ℕ → Simple
      row r = without_row (simple_of k c table r)

      same_row : (i : ℕ) → i < length table.rows → without_row (simple_of k c ordered i) ≡ row (get_or numbers i 0)
      same_row i i_below = ap (simple_with k c table.over) (fun_ext (same_values k s S c below i i_below))

      listed : map without_row (rows_of k c ordered) ≡ map row numbers
      listed =
          map_map (simple_of k c ordered) (range_with_len 0 (length (simple_rows k s c)))
          ∙ ap (λ n. map (λ r. without_row (simple_of k c ordered r)) (range_with_len 0 n)) (rows_count k s S c below)
          ∙ map_below (λ r. without_row (simple_of k c ordered r)) row (length table.rows) numbers (has_row_numbers k s c below).count same_row

  below_permute : (n : ℕ) → n ≤ length s.tables → IsPermutation (map without_row (rows_below k n s.tables)) (map without_row (rows_below k n t.tables))
  below_permute zero most =
      subst (λ xs. IsPermutation (map without_row xs) (map without_row (rows_below k 0 t.tables))) (sym (rows_below-zero k s.tables))
      (subst (λ xs. IsPermutation [] (map without_row xs)) (sym (rows_below-zero k t.tables)) (IsPermutation-refl []))
  below_permute (suc n) most =
      subst (λ xs. IsPermutation xs (map without_row (rows_below k (suc n) t.tables))) (sym (parts s.tables))
      (subst (λ xs. IsPermutation (map without_row (rows_below k n s.tables) ++ map without_row (rows_of k n (table_at s.tables n))) xs) (sym (parts t.tables))
      (IsPermutation-append (map without_row (rows_below k n s.tables)) (map without_row (rows_below k n t.tables)) (map without_row (rows_of k n (table_at s.tables n)))
      (map without_row (rows_of k n (table_at t.tables n))) (below_permute n (omega (arith, most))) (rows_permute n (omega (arith, most)))))
    where
      parts : (tables : List RowsOver) → map without_row (rows_below k (suc n) tables) ≡ map without_row (rows_below k n tables) ++ map without_row (rows_of k n (table_at tables n))
      parts tables = ap (map without_row) (rows_below-suc k n tables) ∙ map-append without_row (rows_below k n tables) (rows_of k n (table_at tables n))

  same_simples : map without_row (simples_of k t.tables) ≡ map without_row (simples_of k s.tables)
  same_simples =
      let rows = map without_row (rows_below k (length s.tables) s.tables) in
      in_place k t.tables rows (subst (λ n. IsPermutation rows (map without_row (rows_below k n t.tables))) (sym O.count) (below_permute (length s.tables) (omega arith)))
      ∙ sym (in_place k s.tables rows (IsPermutation-refl rows))

pub same_simples_in_order : SameSimplesInOrder
same_simples_in_order k s S = same_simples k s (in_order k s) S (in_order_are k s)
