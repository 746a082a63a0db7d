-- Tables with their rows in the order of the simples stay as they are when they are put into that order again.
use Rattle.row_order.proofs.Names.{◌≡◌, ℕ, ◌<◌, ◌-◌, Bool, true, false, cond, ◌==◌, ℤ, List, [], ◌∷◌, ◌++◌, length, map, refl, sym, ap, ap₂, ◌∙◌, subst, range_with_len, filter, All, get_or_default, All-head, All-tail, All-filter, CyclotomicValue, array_of, size, RowsOver, characters_of, SimplesOver, Simple, no_simple, table_at, simples_of, AreSimples, simple_rows, in_order, without_row, OrderIsKept}
use Rattle.cyclotomic.specs.Polynomial.{zeros}
use Rattle.transport.proofs.Listed.{IsRow, simple_is_row}
use Rattle.row_order.proofs.ClassSimples.{class_simples, simple_row, rows_by_simples}
use Rattle.row_order.proofs.TablesInOrder.{in_order_are, listed_in_order}
use Rattle.row_order.proofs.SameSimples.{same_simples_in_order}

-- coefficients as an array
abbrev padded : List ℤ → List ℤ
padded xs = xs ++ zeros (42 - length xs)

-- the row of a simple, by its values alone
abbrev row_of_values : Simple → List (List ℤ)
row_of_values a = map padded a.values

padded_values : (k : ℕ) (value : ℕ → CyclotomicValue k) (ps : List ℕ) → map (λ p. array_of (value p)) ps ≡ map padded (map (λ p. (value p).coefficients) ps)
unfolding array_of
padded_values k value [] = refl
padded_values k value (p ∷ ps) = ap (λ l. padded (value p).coefficients ∷ l) (padded_values k value ps)

row_by_values : (k : ℕ) (s : SimplesOver) (a : Simple) → IsRow k s.tables a → simple_row k s a ≡ row_of_values a
row_by_values k s a row =
    let table = table_at s.tables a.class in
    padded_values k (λ p. (characters_of k table.rows).chi a.row p) (range_with_len 0 (size table.over)) ∙ ap (λ (b : Simple). map padded b.values) (sym row.is)

map_where : (P : Simple → Type 0) (f g : Simple → List (List ℤ)) → ((a : Simple) → P a → f a ≡ g a) → (xs : List Simple) → All P xs → map f xs ≡ map g xs
map_where P f g h [] all = refl
map_where P f g h (a ∷ rest) all = ap₂ (λ b l. b ∷ l) (h a (All-head P a rest all)) (map_where P f g h rest (All-tail P a rest all))

-- the rows of a class, by the simples without the numbers of rows
abbrev rows_without : ℕ → List Simple → List (List (List ℤ))
rows_without c xs = map row_of_values (filter (λ (a : Simple). a.class == c) xs)

kept_or_not : (b : Bool) (a : Simple) (xs ys : List Simple) → map row_of_values xs ≡ map row_of_values ys
    → map row_of_values (cond b (a ∷ xs) xs) ≡ map row_of_values (cond b (without_row a ∷ ys) ys)
kept_or_not true a xs ys e = ap (λ l. row_of_values a ∷ l) e
kept_or_not false a xs ys e = e

without_numbers : (c : ℕ) (xs : List Simple) → rows_without c xs ≡ rows_without c (map without_row xs)
without_numbers c [] = refl
without_numbers c (a ∷ rest) =
    kept_or_not (a.class == c) a (filter (λ (a : Simple). a.class == c) rest) (filter (λ (a : Simple). a.class == c) (map without_row rest)) (without_numbers c rest)

rows_by_values : (k : ℕ) (s : SimplesOver) (c : ℕ) → simple_rows k s c ≡ rows_without c (map without_row (simples_of k s.tables))
rows_by_values k s c =
    rows_by_simples k s c
    ∙ map_where (IsRow k s.tables) (simple_row k s) row_of_values (row_by_values k s) (class_simples k s c)
    (All-filter (λ (a : Simple). a.class == c) (IsRow k s.tables) (simples_of k s.tables) all)
    ∙ without_numbers c (simples_of k s.tables)
  where
    all : All (IsRow k s.tables) (simples_of k s.tables)
    all j d below = subst (IsRow k s.tables) (get_or_default (simples_of k s.tables) j no_simple d below) (simple_is_row k s.tables j below)

same_rows : (k : ℕ) (s : SimplesOver) → AreSimples k s → (c : ℕ) → simple_rows k (in_order k s) c ≡ simple_rows k s c
same_rows k s S c = rows_by_values k (in_order k s) c ∙ ap (rows_without c) (same_simples_in_order k s S) ∙ sym (rows_by_values k s c)

pub order_is_kept : OrderIsKept
order_is_kept k s S =
    let O = in_order_are k s in
    let tables =
    listed_in_order k s (λ c. (table_at (in_order k s).tables c).over) (simple_rows k (in_order k s)) (length (in_order k s).tables) O.count
    (λ c below. ap (λ (table : RowsOver). table.over) (O.table c (subst (λ n. c < n) O.count below))) (λ c below. same_rows k s S c) in
    λ i. record { cocycle = s.cocycle; tables = tables i }
