-- The simples of a class are the rows of its table, in another order.
use Rattle.row_order.proofs.Names.{◌≡◌, ℕ, zero, suc, ◌<◌, ◌≤◌, Bool, true, false, cond, ◌==◌, List, [], ◌∷◌, ◌++◌, length, map, refl, sym, ap, ap₂, ◌∙◌, subst, eq-eqb, add-one, get_or, take, ℤ, arith, ⊎_elim, range_with_len, filter, IsPermutation, append-nil, map_push, take_all, filter-append, filter_more, IsPermutation-refl, IsPermutation-trans, IsPermutation-cons, IsPermutation-swap, IsPermutation-map, array_of, size, RowsOver, characters_of, SimplesOver, Simple, no_simple, count, table_at, simple_of, rows_of, rows_below, simples_of, insert, ascending, less, rows_below-zero, rows_below-suc, last_or_less, simple_rows}
use Rattle.group_table.specs.Numbers.{passing_below}
use Rattle.group_table.proofs.Numbers.{passing_below-zero, passing_below-suc}
use Rattle.transport.proofs.Distinct.{other_number}
use Rattle.row_order.proofs.NumbersInOrder.{HasNumbers, has_numbers}

-- ---- what is kept of a list that is put into order
module _ {X : Type 0} where
  kept_after : (s t : Bool) (a b : X) (rest put : List X) → IsPermutation (cond s (a ∷ rest) rest) put
      → IsPermutation (cond s (a ∷ cond t (b ∷ rest) rest) (cond t (b ∷ rest) rest)) (cond t (b ∷ put) put)
  kept_after true true a b rest put h =
      IsPermutation-trans (a ∷ b ∷ rest) (b ∷ a ∷ rest) (b ∷ put) (IsPermutation-swap (a ∷ b ∷ rest) (b ∷ a ∷ rest) 0 1 (omega arith) (omega arith) refl)
      (IsPermutation-cons b (a ∷ rest) put h)
  kept_after true false a b rest put h = h
  kept_after false true a b rest put h = IsPermutation-cons b rest put h
  kept_after false false a b rest put h = h

  kept_both : (t : Bool) (a : X) (xs ys : List X) → IsPermutation xs ys → IsPermutation (cond t (a ∷ xs) xs) (cond t (a ∷ ys) ys)
  kept_both true a xs ys h = IsPermutation-cons a xs ys h
  kept_both false a xs ys h = h

module _ (p : Simple → Bool) where
  kept_of_put : (a : Simple) (xs : List Simple) → IsPermutation (filter p (a ∷ xs)) (filter p (insert a xs))
  unfolding insert
  kept_of_put a [] = IsPermutation-refl (filter p (a ∷ []))
  kept_of_put a (b ∷ rest) = by (less b a) (kept_of_put a rest)
    where
      by : (t : Bool) → IsPermutation (filter p (a ∷ rest)) (filter p (insert a rest))
          → IsPermutation (filter p (a ∷ b ∷ rest)) (filter p (cond t (b ∷ insert a rest) (a ∷ b ∷ rest)))
      by true h = kept_after (p a) (p b) a b (filter p rest) (filter p (insert a rest)) h
      by false h = IsPermutation-refl (filter p (a ∷ b ∷ rest))

  kept_in_order : (xs : List Simple) → IsPermutation (filter p xs) (filter p (ascending xs))
  unfolding ascending
  kept_in_order [] = IsPermutation-refl []
  kept_in_order (a ∷ rest) =
      IsPermutation-trans (filter p (a ∷ rest)) (filter p (a ∷ ascending rest)) (filter p (insert a (ascending rest)))
      (kept_both (p a) a (filter p rest) (filter p (ascending rest)) (kept_in_order rest)) (kept_of_put a (ascending rest))

  all_or_none : (b : Bool) (f : ℕ → Simple) → ((r : ℕ) → p (f r) ≡ b) → (rs : List ℕ) → filter p (map f rs) ≡ cond b (map f rs) []
  all_or_none true f h [] = refl
  all_or_none false f h [] = refl
  all_or_none true f h (r ∷ rs) = ap₂ (λ b xs. cond b (f r ∷ xs) xs) (h r) (all_or_none true f h rs)
  all_or_none false f h (r ∷ rs) = ap₂ (λ b xs. cond b (f r ∷ xs) xs) (h r) (all_or_none false f h rs)

-- ---- the rows of one class among those of all
module _ (k : ℕ) (tables : List RowsOver) (c : ℕ) where
  abbrev in_class : Simple → Bool
  in_class a = a.class == c

  of_other : (n : ℕ) → (n ≡ c → ⊥) → filter in_class (rows_of k n (table_at tables n)) ≡ []
  of_other n apart =
      all_or_none in_class false (simple_of k n (table_at tables n)) (λ r. other_number n c apart) (range_with_len 0 (length (table_at tables n).rows))

  of_class : filter in_class (rows_of k c (table_at tables c)) ≡ rows_of k c (table_at tables c)
  of_class = all_or_none in_class true (simple_of k c (table_at tables c)) (λ r. eq-eqb c c refl) (range_with_len 0 (length (table_at tables c).rows))

  parts : (n : ℕ) → filter in_class (rows_below k (suc n) tables) ≡ filter in_class (rows_below k n tables) ++ filter in_class (rows_of k n (table_at tables n))
  parts n = ap (filter in_class) (rows_below-suc k n tables) ∙ filter-append in_class (rows_below k n tables) (rows_of k n (table_at tables n))

  before : (n : ℕ) → n ≤ c → filter in_class (rows_below k n tables) ≡ []
  before zero most = ap (filter in_class) (rows_below-zero k tables)
  before (suc n) most = parts n ∙ ap₂ (λ xs ys. xs ++ ys) (before n (omega (arith, most))) (of_other n (λ e. omega (arith, most, e)))

  among : (n : ℕ) → c < n → filter in_class (rows_below k n tables) ≡ rows_of k c (table_at tables c)
  among zero below = absurd (omega (arith, below))
  among (suc n) below =
      parts n
      ∙ ⊎_elim
      (λ less. ap₂ (λ xs ys. xs ++ ys) (among n less) (of_other n (λ e. omega (arith, less, e))) ∙ append-nil (rows_of k c (table_at tables c)))
      (λ e. ap₂ (λ xs ys. xs ++ ys) (before n (omega (arith, e))) (ap (λ m. filter in_class (rows_of k m (table_at tables m))) (sym e) ∙ of_class))
      (last_or_less c n (omega (arith, below)))

-- ---- the same by the simples and not by their numbers
module _ {X Y : Type 0} (f : X → Y) (p : X → Bool) (xs : List X) (d : X) where
  one_more : (b : Bool) (n : ℕ) (front : List ℕ) (kept : List X) → map (λ i. f (get_or xs i d)) front ≡ map f kept
      → map (λ i. f (get_or xs i d)) (cond b (front ++ n ∷ []) front) ≡ map f (kept ++ cond b (get_or xs n d ∷ []) [])
  one_more true n front kept e =
      map_push (λ i. f (get_or xs i d)) front n ∙ ap (λ l. l ++ f (get_or xs n d) ∷ []) e ∙ sym (map_push f kept (get_or xs n d))
  one_more false n front kept e = e ∙ ap (map f) (sym (append-nil kept))

  by_numbers : (n : ℕ) → n ≤ length xs → map (λ i. f (get_or xs i d)) (passing_below n (λ i. p (get_or xs i d))) ≡ map f (filter p (take n xs))
  by_numbers zero most = ap (map (λ i. f (get_or xs i d))) (passing_below-zero (λ i. p (get_or xs i d)))
  by_numbers (suc n) most =
      ap (map (λ i. f (get_or xs i d))) (passing_below-suc n (λ i. p (get_or xs i d)))
      ∙ one_more (p (get_or xs n d)) n (passing_below n (λ i. p (get_or xs i d))) (filter p (take n xs)) (by_numbers n (omega (arith, most)))
      ∙ ap (map f) (sym (filter_more p xs n d (omega (arith, most)))) ∙ ap (λ m. map f (filter p (take m xs))) (add-one n)

module _ (k : ℕ) (s : SimplesOver) where
  -- the simples of the class c, in order
  abbrev pub class_simples : ℕ → List Simple
  class_simples c = filter (λ (a : Simple). a.class == c) (simples_of k s.tables)

  -- the row that a simple is
  abbrev pub simple_row : Simple → List (List ℤ)
  simple_row a =
      let table = table_at s.tables a.class in
      map (λ p. array_of ((characters_of k table.rows).chi a.row p)) (range_with_len 0 (size table.over))

  pub rows_by_simples : (c : ℕ) → simple_rows k s c ≡ map simple_row (class_simples c)
  rows_by_simples c =
      by_numbers simple_row (λ (a : Simple). a.class == c) (simples_of k s.tables) no_simple (count k s) (omega arith)
      ∙ ap (λ xs. map simple_row (filter (λ (a : Simple). a.class == c) xs)) (take_all (count k s) (simples_of k s.tables) (omega arith))

module _ (k : ℕ) (s : SimplesOver) (c : ℕ) (below : c < length s.tables) where
  pub rows_are_simples : IsPermutation (rows_of k c (table_at s.tables c)) (class_simples k s c)
  unfolding simples_of
  rows_are_simples =
      subst (λ xs. IsPermutation xs (class_simples k s c)) (among k s.tables c (length s.tables) below)
      (kept_in_order (λ (a : Simple). a.class == c) (rows_below k (length s.tables) s.tables))

  -- the numbers of the rows, in the order of the simples
  abbrev pub row_numbers : List ℕ
  row_numbers = map (λ (a : Simple). a.row) (class_simples k s c)

  numbers_again : (f : ℕ → Simple) → ((r : ℕ) → (f r).row ≡ r) → (rs : List ℕ) → map (λ (a : Simple). a.row) (map f rs) ≡ rs
  numbers_again f h [] = refl
  numbers_again f h (r ∷ rs) = ap₂ (λ n ns. n ∷ ns) (h r) (numbers_again f h rs)

  pub numbers_permute : IsPermutation (range_with_len 0 (length (table_at s.tables c).rows)) row_numbers
  numbers_permute =
      subst (λ ns. IsPermutation ns row_numbers)
      (numbers_again (simple_of k c (table_at s.tables c)) (λ r. refl) (range_with_len 0 (length (table_at s.tables c).rows)))
      (IsPermutation-map (λ (a : Simple). a.row) (rows_of k c (table_at s.tables c)) (class_simples k s c) rows_are_simples)

  pub has_row_numbers : HasNumbers (length (table_at s.tables c).rows) row_numbers
  has_row_numbers = has_numbers (length (table_at s.tables c).rows) row_numbers numbers_permute
