-- The rows of a certificate are good tables of the classes, and no sum of their values overflows.
use Rattle.qd_engine.proofs.Names.{◌≡◌, ℕ, ◌<◌, true, List, [], length, All, sym, ap, ap₂, subst, ◌∙◌, arith, ℤ, ◌==◌, range_with_len, All-map, length-map-range_with_len, get_or-map-range_with_len, fill_by_all, passing_below-all, representatives, representative_at, representative_at_is, Cochain, array_of, TwistedSubgroup, size, RowsOver, IsShaped, characters_of, IsGood, twist_of, twist_lawful, SimplesOver, no_table, table_at, count, class_at, value_at, AreSimples, AreRootRows, HasRootRows, root_rows_fit, degree_few, root_simples_fit, simples_in, row_of, Block, block, block_at, IsValueOf, IsMatched, class_twist, class_table, class_rows, tables_of, simples_over, roots_fit, simple_at, over_at, simple_rows, in_order, tables_length, tables_at, certified_block, certified_blocks}
use Rattle.qd_ring.proofs.ProductLaws.{is_array-of}
use Rattle.qd_ring.proofs.CycLaws.{small-array_of}
use Rattle.table_check.specs.Fitting.{SidesFit}
use Rattle.transport.specs.SSums.{s_sum}
use Rattle.transport.proofs.Listed.{simple_is_row, over_is_twist}
use Rattle.row_order.proofs.TablesInOrder.{simples_in_order, root_rows_in_order}

module _ (k : ℕ) (s : SimplesOver) (S : AreSimples k s) (roots : HasRootRows k s) where
  abbrev w : Cochain
  w = s.cocycle

  abbrev certified : List Block
  certified = certified_blocks k s

  certified_count : length certified ≡ length (representatives w.group)
  unfolding certified_blocks
  certified_count = length-map-range_with_len (certified_block k s) 0 (length (representatives w.group))

  certified_at : (c : ℕ) → c < length (representatives w.group) → block_at certified c ≡ certified_block k s c
  unfolding certified_blocks
  certified_at c below = get_or-map-range_with_len (certified_block k s) 0 (length (representatives w.group)) c c (block 0 []) below (omega arith)

  -- they are the tables of the simples with their rows put into order
  table_in_order : (c : ℕ) → c < length s.tables → table_at (tables_of w certified) c ≡ record { over = (table_at s.tables c).over; rows = simple_rows k s c }
  table_in_order c below =
      let here = subst (λ n. c < n) S.tables.count below in
      tables_at w certified c here
      ∙ ap₂ (λ (over : TwistedSubgroup) (rows : List (List (List ℤ))). record { over = over; rows = rows }) (sym (S.tables.over c below)) (ap (λ (b : Block). b.rows) (certified_at c here))

  tables_in_order : tables_of w certified ≡ (in_order k s).tables
  tables_in_order =
      fill_by_all (λ c. record { over = (table_at s.tables c).over; rows = simple_rows k s c }) (tables_of w certified) (length s.tables) no_table
      (tables_length w certified ∙ sym S.tables.count) table_in_order

  simples_in_order_are : in_order k s ≡ simples_over w certified
  simples_in_order_are = ap (λ (tables : List RowsOver). record { cocycle = w; tables = tables }) (sym tables_in_order)

  pub certified_simples : AreSimples k (simples_over w certified)
  certified_simples = subst (AreSimples k) simples_in_order_are (simples_in_order k s S)

  pub certified_roots : HasRootRows k (simples_over w certified)
  certified_roots = subst (HasRootRows k) simples_in_order_are (root_rows_in_order k s S roots)

  module _ (c : ℕ) (below : c < length (representatives w.group)) where
    listed : c < length (tables_of w certified)
    listed = subst (λ n. c < n) (sym (tables_length w certified)) below

    pub certified_good : IsGood (class_twist w c) (class_table k certified c)
    certified_good = subst (λ (t : RowsOver). IsGood t.over (characters_of k t.rows)) (tables_at w certified c below) (certified_simples.good c listed)

    certified_shaped : IsShaped k (class_rows w certified c)
    certified_shaped = subst (IsShaped k) (tables_at w certified c below) (certified_simples.shaped c listed)

    pub certified_fit : SidesFit (class_twist w c) (class_table k certified c)
    certified_fit =
        root_rows_fit k S.conductor (class_twist w c)
        (twist_lawful w S.cocycle (representative_at w.group c) (representative_at_is w.group S.cocycle.cochain.group c below).below)
        (class_table k certified c)
        (subst (λ (t : RowsOver). AreRootRows t.over (characters_of k t.rows)) (tables_at w certified c below) (certified_roots c listed))

  pub certified_matched : IsMatched w.group certified
  unfolding twist_of
  certified_matched = record {
    count = certified_count;
    representative = λ b below. ap (λ (x : Block). x.representative) (certified_at b (subst (λ n. b < n) certified_count below));
    width = λ b r below row. (certified_shaped b (subst (λ n. b < n) certified_count below)).width r row;
  }

  pub certified_sums : (i j : ℕ) → i < count k (simples_over w certified) → j < count k (simples_over w certified) → (s_sum k (simples_over w certified) i j).fits ≡ true
  certified_sums = root_simples_fit k (simples_over w certified) certified_simples certified_roots

  -- ---- the values

  certified_value : (i p : ℕ) → i < count k s → p < size (over_at k s i) → IsValueOf k (array_of (value_at k s i p))
  certified_value i p i_below p_below =
      let at = simple_is_row k s.tables i i_below in
      let twist = over_is_twist k s S (class_at k s i) at.class_below in
      let row = (roots (class_at k s i) at.class_below).row (simple_at k s i).row at.row_below in
      let few = degree_few row.degree (size (over_at k s i)) row.square twist.small.to_sixty in
      let u = value_at k s i p in
      (is_array-of k S.conductor u, small-array_of u ∙ roots_fit k S.conductor row.degree u (row.roots p p_below) (omega arith))

  certified_row : (i : ℕ) → i < count k s → All (IsValueOf k) (row_of k s i)
  certified_row i i_below = λ p d below.
      let f = λ (p : ℕ). array_of (value_at k s i p) in
      let n = size (over_at k s i) in
      let p_below : p < n = subst (λ m. p < m) (length-map-range_with_len f 0 n) below in
      subst (IsValueOf k) (sym (get_or-map-range_with_len f 0 n p p d p_below (omega arith))) (certified_value i p i_below p_below)

  certified_rows : (c : ℕ) → All (λ row. All (IsValueOf k) row) (simple_rows k s c)
  certified_rows c =
      All-map (λ row. All (IsValueOf k) row) (row_of k s) (simples_in k s c)
      (λ place d below. certified_row _ (passing_below-all (count k s) (λ i. class_at k s i == c) place d below).below)

  pub certified_values : All (λ (b : Block). All (λ row. All (IsValueOf k) row) b.rows) certified
  unfolding certified_blocks
  certified_values =
      All-map (λ (b : Block). All (λ row. All (IsValueOf k) row) b.rows) (certified_block k s) (range_with_len 0 (length (representatives w.group)))
      (λ place c below. certified_rows _)
