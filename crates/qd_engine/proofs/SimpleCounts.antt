-- There are as many simples as the ranks of the classes add up to.
use Rattle.qd_engine.proofs.Names.{◌≡◌, ℕ, zero, suc, ◌+◌, ◌<◌, List, [], ◌∷◌, ◌++◌, length, map, refl, sym, ap, ap₂, ◌∙◌, arith, length-append, sum, sum_by_push, range_with_len, length-map-range_with_len, map-range_with_len_more, representatives, representative_at, Cochain, rank, twist_of, RowsOver, SimplesOver, AreSimples, count, table_at, class_twist, class_twists, simples_of, rows_of, rows_below, ascending, class_ranks}
use Rattle.std.proofs.lemmas.List.Sorted.{length_permutation}
use Rattle.transport.proofs.Order.{ascending_permutes}
use Rattle.transport.proofs.Rows.{rows_below-zero, rows_below-suc}
use Rattle.dixon_split.proofs.Values.{map_twice}

module _ (k : ℕ) (w : Cochain) (tables : List RowsOver) where
  ranks_before : ℕ → List ℕ
  ranks_before n = map (λ c. rank (class_twist w c)) (range_with_len 0 n)

  ranks_more : (n : ℕ) → ranks_before (suc n) ≡ ranks_before n ++ rank (class_twist w n) ∷ []
  unfolding ranks_before
  ranks_more n =
      let next : suc n ≡ n + 1 = omega arith in
      ap (λ m. map (λ c. rank (class_twist w c)) (range_with_len 0 m)) next ∙ map-range_with_len_more (λ c. rank (class_twist w c)) 0 n n (omega arith)

  rows_number : (n : ℕ) → ((c : ℕ) → c < n → length (table_at tables c).rows ≡ rank (class_twist w c)) → length (rows_below k n tables) ≡ sum (ranks_before n)
  unfolding ranks_before
  rows_number zero each = rw (rows_below-zero k tables) refl
  rows_number (suc n) each =
      let before = rows_number n (λ c below. each c (omega (arith, below))) in
      let here : length (rows_of k n (table_at tables n)) ≡ rank (class_twist w n) = length-map-range_with_len _ 0 (length (table_at tables n).rows) ∙ each n (omega arith) in
      ap length (rows_below-suc k n tables) ∙ length-append (rows_below k n tables) (rows_of k n (table_at tables n)) ∙ ap₂ (λ a b. a + b) before here
      ∙ sym (sum_by_push (λ x. x) (ranks_before n) (rank (class_twist w n))) ∙ ap sum (sym (ranks_more n))

-- the ranks are those of the twisted centralisers of the classes
pub simples_number : (k : ℕ) (w : Cochain) (s : SimplesOver) → s.cocycle ≡ w → AreSimples k s → count k s ≡ sum (class_ranks w)
unfolding simples_of class_ranks class_twists ranks_before
simples_number k w s is good =
    let rows = rows_below k (length s.tables) s.tables in
    length_permutation rows (ascending rows) (ascending_permutes rows)
    ∙ rows_number k w s.tables (length s.tables)
    (λ c below. (good.good c below).count ∙ ap rank (good.tables.over c below) ∙ ap (λ (v : Cochain). rank (twist_of v (representative_at v.group c))) is)
    ∙ ap (λ n. sum (map (λ c. rank (class_twist w c)) (range_with_len 0 n))) (good.tables.count ∙ ap (λ (v : Cochain). length (representatives v.group)) is)
    ∙ ap sum (sym (map_twice (class_twist w) rank (range_with_len 0 (length (representatives w.group)))))
