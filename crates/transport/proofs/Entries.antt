-- Entries are compared as their simples, and gathered row by row.
use Rattle.transport.proofs.Names.{◌≡◌, ℕ, ◌+◌, ◌-◌, ◌*◌, ◌<◌, ◌≤◌, List, [], ◌∷◌, ◌++◌, length, map, get_or, refl, sym, ap, ap₂, ◌∙◌, arith, zero-add, add-one, subst, length-map, ⊎_elim, ℤ, range_with_len, Ordering, nat_cmp, int_cmp, bool_cmp, ordering_then, is_lt, IsStrictWeakOrder, int_cmp_total, tied_itself, slice_cmp, lists_total, IsPermutation, map-range_with_len_more, ranks_by, CyclotomicValue, cyclotomic_value, Cyc, representatives, classes_at_most, IsTwist, RowsOver, IsShaped, characters_of, IsGood, length-map-range_with_len, pred, append_assoc, length-append, IsSortedBy, map-append, sorted_far, IsPermutation-map, array-of_value, compare, ascending, table_at, simple_of, rows_of, rows_below, is_regular, rank, count_by-le-length, coefficients_of, simple_in, AreGood, Entry}
use Rattle.cyclotomic.specs.Polynomial.{zeros}
use Rattle.qd_ring.specs.CycArrays.{array_of}
use Rattle.transport.proofs.Rows.{last_or_less, rows_below-suc}
use Rattle.transport.proofs.SortedLists.{Above, Ascends, ascends_of}
use Rattle.transport.proofs.Order.{less, compare_total, put_in_order}

-- a common end decides nothing
compare_padded : (xs ys zs : List ℤ) → length xs ≡ length ys → slice_cmp int_cmp (xs ++ zs) (ys ++ zs) ≡ slice_cmp int_cmp xs ys
compare_padded [] [] zs e = tied_itself (lists_total int_cmp_total) zs
compare_padded [] (y ∷ ys) zs e = absurd (omega (arith, e))
compare_padded (x ∷ xs) [] zs e = absurd (omega (arith, e))
compare_padded (x ∷ xs) (y ∷ ys) zs e = ap (ordering_then (int_cmp x y)) (compare_padded xs ys zs (ap pred e))

compare_arrays : (k : ℕ) (u v : CyclotomicValue k) → slice_cmp int_cmp (array_of u) (array_of v) ≡ slice_cmp int_cmp u.coefficients v.coefficients
unfolding array_of
compare_arrays k u v =
    ap (λ n. slice_cmp int_cmp (u.coefficients ++ zeros (42 - length u.coefficients)) (v.coefficients ++ zeros (42 - n))) (v.count ∙ sym u.count)
    ∙ compare_padded u.coefficients v.coefficients (zeros (42 - length u.coefficients)) (u.count ∙ sym v.count)

compare_values : {k : ℕ} (u v : Cyc k)
    → slice_cmp int_cmp u.coefficients v.coefficients ≡ slice_cmp int_cmp (cyclotomic_value k u.coefficients).coefficients (cyclotomic_value k v.coefficients).coefficients
compare_values {k} u v =
    ap₂ (slice_cmp int_cmp) (array-of_value k u.conductor u.coefficients u.array) (array-of_value k v.conductor v.coefficients v.array)
    ∙ compare_arrays k (cyclotomic_value k u.coefficients) (cyclotomic_value k v.coefficients)

compare_rows : {k : ℕ} (us vs : List (Cyc k))
    → slice_cmp (λ (u v : Cyc k). slice_cmp int_cmp u.coefficients v.coefficients) us vs ≡ slice_cmp (slice_cmp int_cmp) (coefficients_of k us) (coefficients_of k vs)
compare_rows [] [] = refl
compare_rows [] (v ∷ vs) = refl
compare_rows (u ∷ us) [] = refl
compare_rows (u ∷ us) (v ∷ vs) = ap₂ ordering_then (compare_values u v) (compare_rows us vs)

-- as entries are compared, field after field
abbrev pub compare_entries : {k : ℕ} → Entry k → Entry k → Ordering
compare_entries {k} a b =
    ordering_then (bool_cmp a.other b.other)
    (ordering_then (nat_cmp a.class b.class)
    (ordering_then (nat_cmp a.degree b.degree)
    (ordering_then (slice_cmp (λ (u v : Cyc k). slice_cmp int_cmp u.coefficients v.coefficients) a.values.items b.values.items) (nat_cmp a.row b.row))))

entries_compare : {k : ℕ} (a b : Entry k) → compare_entries a b ≡ compare (simple_in k a) (simple_in k b)
entries_compare a b =
    ap
    (λ o.
    ordering_then (bool_cmp a.other b.other) (ordering_then (nat_cmp a.class b.class) (ordering_then (nat_cmp a.degree b.degree) (ordering_then o (nat_cmp a.row b.row)))))
    (compare_rows a.values.items b.values.items)

above_map : {k : ℕ} (a : Entry k) (xs : List (Entry k)) → Above (λ (x y : Entry k). less (simple_in k x) (simple_in k y)) a xs → Above less (simple_in k a) (map (simple_in k) xs)
above_map a [] h = tt
above_map a (x ∷ xs) h = (h.0, above_map a xs h.1)

ascends_map : {k : ℕ} (xs : List (Entry k)) → Ascends (λ (x y : Entry k). less (simple_in k x) (simple_in k y)) xs → Ascends less (map (simple_in k) xs)
ascends_map [] h = tt
ascends_map (x ∷ xs) h = (above_map x xs h.0, ascends_map xs h.1)

-- sorted entries are their simples in order
pub sorted_entries : (k : ℕ) (xs ys : List (Entry k)) → IsPermutation xs ys → IsSortedBy (λ (a b : Entry k). is_lt (compare_entries a b)) ys
    → map (simple_in k) ys ≡ ascending (map (simple_in k) xs)
sorted_entries k xs ys permutes sorted =
    let below = λ (a b : Entry k). less (simple_in k a) (simple_in k b) in
    let weak : IsStrictWeakOrder below = ranks_by compare_total (simple_in k) in
    let up : IsSortedBy below ys = λ i d low high. ap is_lt (sym (entries_compare (get_or ys (i + 1) d) (get_or ys i d))) ∙ sorted i d low high in
    put_in_order (map (simple_in k) xs) (map (simple_in k) ys) (IsPermutation-map (simple_in k) xs ys permutes)
    (ascends_map ys (ascends_of below ys (sorted_far below weak ys up)))

-- one more of what is listed by a count
pub one_more : {E A : Type 0} (of : E → A) (at : ℕ → A) (i : ℕ) (xs : List E) (x : E) → map of xs ≡ map at (range_with_len 0 i) → of x ≡ at i
    → map of (xs ++ x ∷ []) ≡ map at (range_with_len 0 (i + 1))
one_more of at i xs x same value =
    map-append of xs (x ∷ []) ∙ ap₂ (λ ys y. ys ++ y ∷ []) same value ∙ sym (map-range_with_len_more at 0 i i (zero-add i))

-- one more of what is listed after others
pub one_more_after : {E A : Type 0} (of : E → A) (at : ℕ → A) (i : ℕ) (before : List A) (xs : List E) (x : E) → map of xs ≡ before ++ map at (range_with_len 0 i) → of x ≡ at i
    → map of (xs ++ x ∷ []) ≡ before ++ map at (range_with_len 0 (i + 1))
one_more_after of at i before xs x same value =
    map-append of xs (x ∷ []) ∙ ap₂ (λ ys y. ys ++ y ∷ []) same value ∙ append_assoc before (map at (range_with_len 0 i)) (at i ∷ [])
    ∙ ap (λ ys. before ++ ys) (sym (map-range_with_len_more at 0 i i (zero-add i)))

-- the rows of the tables of one class more
pub next_class : (k c : ℕ) (tables : List RowsOver) (before after : List (Entry k)) → map (simple_in k) before ≡ rows_below k c tables
    → map (simple_in k) after ≡ map (simple_in k) before ++ rows_of k c (table_at tables c) → map (simple_in k) after ≡ rows_below k (c + 1) tables
next_class k c tables before after same added =
    added ∙ ap (λ xs. xs ++ rows_of k c (table_at tables c)) same ∙ sym (rows_below-suc k c tables) ∙ ap (λ n. rows_below k n tables) (sym (add-one c))

-- one table more is good
pub next_good : (k c : ℕ) (tables : List RowsOver) → AreGood k c tables → IsShaped k (table_at tables c)
    → IsGood (table_at tables c).over (characters_of k (table_at tables c).rows) → AreGood k (c + 1) tables
next_good k c tables before shaped good = record {
  shaped = λ n below. at (λ m. IsShaped k (table_at tables m)) n below (before.shaped n) shaped;
  good = λ n below. at (λ m. IsGood (table_at tables m).over (characters_of k (table_at tables m).rows)) n below (before.good n) good;
}
  where
    at : (P : ℕ → Type 0) (n : ℕ) → n < c + 1 → (n < c → P n) → P c → P n
    at P n below earlier last = ⊎_elim earlier (λ e. subst P (sym e) last) (last_or_less n c below)

-- how many entries there are
pub few_more : (k c : ℕ) (table : RowsOver) (before after : List (Entry k)) → map (simple_in k) after ≡ map (simple_in k) before ++ rows_of k c table
    → length table.rows ≤ 60 → length before ≤ 60 * c → length after ≤ 60 * (c + 1)
few_more k c table before after added few earlier =
    let lengths : length after ≡ length before + length table.rows =
    sym (length-map after (simple_in k)) ∙ ap length added ∙ length-append (map (simple_in k) before) (rows_of k c table)
    ∙ ap₂ (λ m n. m + n) (length-map before (simple_in k)) (length-map-range_with_len (simple_of k c table) 0 (length table.rows)) in
    omega (arith, lengths)

-- a good table has at most as many rows as there are elements
pub few_rows : (k : ℕ) (table : RowsOver) → IsTwist table.over → IsGood table.over (characters_of k table.rows) → length table.rows ≤ 60
unfolding rank
few_rows k table twist good =
    let most = classes_at_most table.over.group twist.group in
    let some = count_by-le-length (is_regular table.over) (representatives table.over.group) in
    omega (arith, good.count, twist.small.to_sixty)
