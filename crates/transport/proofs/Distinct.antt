-- Each row of a table is one simple.
use Rattle.transport.proofs.Names.{◌≡◌, ℕ, zero, suc, ◌+◌, ◌<◌, ◌≤◌, Bool, true, false, cond, ◌&&◌, ◌==◌, List, length, map, get_or, refl, sym, ap, ap₂, ◌∙◌, arith, subst, add-one, zero-add, eq-eqb, take, sum_by, range_with_len, ⊎_elim, sum_by-IsPermutation, RowsOver, nat_eq, sum_by-append, Simple, no_simple, table_at, simple_of, rows_of, rows_below, simples_of, ascending, and_right, cases_eq, ne_eqb, get_or-take, length-take, sum_by-map-range_with_len_more, get_or-le-sum_by, sum_by_more_le}
use Rattle.transport.proofs.Order.{ascending_permutes}
use Rattle.transport.proofs.Rows.{rows_below-zero, rows_below-suc}

-- two places that count make a sum of 2
two_places : {X : Type 0} (f : X → ℕ) (xs : List X) (i j : ℕ) (d : X) → i < j → j < length xs
    → 1 ≤ f (get_or xs i d) → 1 ≤ f (get_or xs j d) → 2 ≤ sum_by f xs
two_places f xs i j d less below first second =
    let front = get_or-le-sum_by f (take j xs) i d (rw (length-take j xs) (omega arith)) in
    let both = sum_by_more_le f xs j d below in
    omega (arith, both, rw (get_or-take j xs i d less) at front)

-- what a number c alone adds to is at most what it adds, and nothing before
once : (total part : ℕ → ℕ) (c : ℕ) → total 0 ≡ 0 → ((m : ℕ) → total (suc m) ≡ total m + part m)
    → ((m : ℕ) → (m ≡ c → ⊥) → part m ≡ 0) → part c ≤ 1 → (m : ℕ) → (total m ≤ 1) × (m ≤ c → total m ≡ 0)
once total part c none next elsewhere most zero = (omega (arith, none), λ before. none)
once total part c none next elsewhere most (suc m) =
    let earlier = once total part c none next elsewhere most m in
    ⊎_elim
    (λ same. (omega (arith, earlier.1, next m, most, ap part same), λ before. omega (arith, before, same)))
    (λ apart. let none = elsewhere m apart in
    (omega (arith, earlier.0, next m, none), λ before. omega (arith, earlier.1, next m, none)))
    (cases_eq m c)

pub other_number : (n r : ℕ) → (n ≡ r → ⊥) → nat_eq n r ≡ false
other_number n r differ = ne_eqb n r differ

-- 1 at row r of class c
abbrev marks : ℕ → ℕ → Simple → ℕ
marks c r a = cond (a.class == c && a.row == r) 1 0

mark_small : (b : Bool) → cond b 1 0 ≤ 1
mark_small true = omega arith
mark_small false = omega arith

module _ (k c r : ℕ) (tables : List RowsOver) where
  -- the first m rows of the table of the class n
  abbrev in_rows : ℕ → ℕ → ℕ
  in_rows n m = sum_by (marks c r) (map (simple_of k n (table_at tables n)) (range_with_len 0 m))

  more : (n m : ℕ) → in_rows n (suc m) ≡ in_rows n m + marks c r (simple_of k n (table_at tables n) m)
  more n m =
      ap (in_rows n) (sym (add-one m))
      ∙ sum_by-map-range_with_len_more (marks c r) (simple_of k n (table_at tables n)) 0 m m (zero-add m)

  elsewhere : (n : ℕ) → (n ≡ c → ⊥) → (m : ℕ) → in_rows n m ≡ 0
  elsewhere n apart zero = refl
  elsewhere n apart (suc m) =
      more n m ∙ ap₂ (λ t b. t + cond (b && m == r) 1 0) (elsewhere n apart m) (ne_eqb n c apart)

  in_class : (m : ℕ) → in_rows c m ≤ 1
  in_class m =
      (once (in_rows c) (λ m. marks c r (simple_of k c (table_at tables c) m)) r refl (more c)
      (λ m apart. ap (λ b. cond b 1 0) (and_right (c == c) (m == r) (ne_eqb m r apart)))
      (mark_small (c == c && r == r)) m).0

  at_most_once : sum_by (marks c r) (simples_of k tables) ≤ 1
  unfolding simples_of
  at_most_once =
      let listed = rows_below k (length tables) tables in
      let rows = λ (n : ℕ). length (table_at tables n).rows in
      let once_listed =
      (once (λ n. sum_by (marks c r) (rows_below k n tables)) (λ n. in_rows n (rows n)) c
      (ap (sum_by (marks c r)) (rows_below-zero k tables))
      (λ n. ap (sum_by (marks c r)) (rows_below-suc k n tables)
      ∙ sum_by-append (marks c r) (rows_below k n tables) (rows_of k n (table_at tables n)))
      (λ n apart. elsewhere n apart (rows n)) (in_class (rows c)) (length tables)).0 in
      let same = sum_by-IsPermutation (marks c r) listed (ascending listed) (ascending_permutes listed) in
      omega (arith, once_listed, same)

-- two simples of one class and one row are one
pub same_row : (k : ℕ) (tables : List RowsOver) (i j : ℕ)
    → i < length (simples_of k tables) → j < length (simples_of k tables)
    → (get_or (simples_of k tables) i no_simple).class ≡ (get_or (simples_of k tables) j no_simple).class
    → (get_or (simples_of k tables) i no_simple).row ≡ (get_or (simples_of k tables) j no_simple).row → i ≡ j
same_row k tables i j i_below j_below class row =
    let a = get_or (simples_of k tables) j no_simple in
    let marked : (b : Simple) → b.class ≡ a.class → b.row ≡ a.row → 1 ≤ marks a.class a.row b =
    λ b p q. rw (eq-eqb b.class a.class p) (rw (eq-eqb b.row a.row q) (omega arith)) in
    let other = marked (get_or (simples_of k tables) i no_simple) class row in
    let once = at_most_once k a.class a.row tables in
    let two = two_places (marks a.class a.row) (simples_of k tables) in
    let own = marked a refl refl in
    let below : i < j → ⊥ = λ less. omega (arith, once, two i j no_simple less j_below other own) in
    let above : j < i → ⊥ = λ less. omega (arith, once, two j i no_simple less i_below own other) in
    omega (arith, below, above)
