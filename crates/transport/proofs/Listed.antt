-- Each simple is a row of the table of its class, and the first is the vacuum.
use Rattle.transport.proofs.Names.{◌≡◌, ℕ, zero, suc, ◌*◌, ◌<◌, ◌≤◌, Bool, true, false, ◌&&◌, ◌==◌, nat_le, Option, Some, None, List, [], ◌∷◌, length, map, get_or, refl, sym, ap, ◌∙◌, arith, subst, eqb-true, zero-add, mul-le-mul, unwrap_or, IfSome, range_with_len, Ordering, bool_cmp, ordering_then, is_lt, length-map, length-map-range_with_len, ⊎_elim, and_true, first_some, Table, IsGroup, identity_of, representative_at, centraliser_of, representative_at_is, Cochain, cyclotomic, value_one, CyclotomicValue, cyclotomic_value, Cyc, TwistedSubgroup, size, element, IsTwist, identities_agree, centraliser_is_twist, Characters, RowsOver, characters_of, is_same, where_holds, degree_of, twist_of, whole, twist_left, twist_right, is_same-Decides, not, le_trans, All, Contains, get_or-map, get_or-map-range_with_len, All-nil, All-append, Contains-append_left, Contains-append_right, All-permutation, Contains-permutation, all_below-at, all_below-all, same_value, twisted_centraliser, is_vacuum, HasTables, SimplesOver, Simple, no_simple, table_at, simple_of, rows_of, rows_below, simples_of, ascending, count, simple_at, class_at, degree_at, over_at, value_at, IsVacuumAt, AreSimples, coefficients_of, simple_in, Entry}
use Rattle.transport.proofs.SortedLists.{Ascends, above_at}
use Rattle.transport.proofs.Order.{less, ascending_permutes, ascending_ascends}
use Rattle.transport.proofs.Rows.{rows_below-zero, rows_below-suc, last_or_less}

-- a simple that is a row of the table of its class
pub record IsRow (k : ℕ) (tables : List RowsOver) (a : Simple) : Type 0 where
  pub class_below : a.class < length tables
  pub row_below : a.row < length (table_at tables a.class).rows
  pub is : a ≡ simple_of k a.class (table_at tables a.class) a.row

module _ (k : ℕ) (tables : List RowsOver) where
  rows_of_are : (c : ℕ) → c < length tables → All (IsRow k tables) (rows_of k c (table_at tables c))
  rows_of_are c below j d place =
      let row : j < length (table_at tables c).rows = rw (length-map-range_with_len (simple_of k c (table_at tables c)) 0 (length (table_at tables c).rows)) at place in
      subst (IsRow k tables) (sym (get_or-map-range_with_len (simple_of k c (table_at tables c)) 0 (length (table_at tables c).rows) j j d row (zero-add j)))
      (record { class_below = below; row_below = row; is = refl })

  rows_are : (c : ℕ) → c ≤ length tables → All (IsRow k tables) (rows_below k c tables)
  rows_are zero most = subst (All (IsRow k tables)) (sym (rows_below-zero k tables)) (All-nil (IsRow k tables))
  rows_are (suc c) most =
      subst (All (IsRow k tables)) (sym (rows_below-suc k c tables))
      (All-append (IsRow k tables) (rows_below k c tables) (rows_of k c (table_at tables c)) (rows_are c (omega (arith, most))) (rows_of_are c (omega (arith, most))))

  simples_are : All (IsRow k tables) (simples_of k tables)
  unfolding simples_of
  simples_are =
      All-permutation (IsRow k tables) (rows_below k (length tables) tables) (ascending (rows_below k (length tables) tables)) (ascending_permutes (rows_below k (length tables) tables))
      (rows_are (length tables) (omega arith))

  pub simple_is_row : (i : ℕ) → i < length (simples_of k tables) → IsRow k tables (get_or (simples_of k tables) i no_simple)
  simple_is_row i below = simples_are i no_simple below

  -- every row is a simple
  row_stands : (c n r : ℕ) → c < n → r < length (table_at tables c).rows → Contains (rows_below k n tables) (simple_of k c (table_at tables c) r)
  row_stands c zero r below row = absurd (omega (arith, below))
  row_stands c (suc n) r below row =
      subst (λ xs. Contains xs (simple_of k c (table_at tables c) r)) (sym (rows_below-suc k n tables))
      (⊎_elim
      (λ less. Contains-append_left (rows_below k n tables) (rows_of k n (table_at tables n)) _ (row_stands c n r less row))
      (λ e. Contains-append_right (rows_below k n tables) (rows_of k n (table_at tables n)) _
      (subst (λ m. Contains (rows_of k m (table_at tables m)) (simple_of k c (table_at tables c) r)) e (here c r row)))
      (last_or_less c n (omega (arith, below))))
    where
      here : (c r : ℕ) → r < length (table_at tables c).rows → Contains (rows_of k c (table_at tables c)) (simple_of k c (table_at tables c) r)
      here c r row =
          let f = simple_of k c (table_at tables c) in
          let n = length (table_at tables c).rows in (
            r,
            rw (length-map-range_with_len f 0 n) row,
            get_or-map-range_with_len f 0 n r r (f r) row (zero-add r),
          )

  pub row_is_simple : (c r : ℕ) → c < length tables → r < length (table_at tables c).rows → Contains (simples_of k tables) (simple_of k c (table_at tables c) r)
  unfolding simples_of
  row_is_simple c r below row =
      Contains-permutation (rows_below k (length tables) tables) (ascending (rows_below k (length tables) tables)) _ (ascending_permutes (rows_below k (length tables) tables))
      (row_stands c (length tables) r below row)

  -- the first simple is the vacuum, where one is
  other_first : (b c : Bool) (o : Ordering) → b ≡ false → is_lt (ordering_then (bool_cmp b c) o) ≡ false → c ≡ false
  other_first false false o e h = refl
  other_first false true o e h = absurd cc
  other_first true c o e h = absurd cc

  none : {v : Simple} → Contains [] v → ⊥
  none (j, below, is) = omega (arith, below)

  first_of : (xs : List Simple) (v : Simple) → Ascends less xs → Contains xs v → v.other ≡ false → (get_or xs 0 no_simple).other ≡ false
  first_of [] v up there h = absurd (none there)
  first_of (a ∷ rest) v up (zero, below, is) h = subst (λ (x : Simple). x.other ≡ false) (sym is) h
  first_of (a ∷ rest) v up (suc j, below, is) h =
      let lower : less v a ≡ false = subst (λ (x : Simple). less x a ≡ false) is (above_at less a rest j (omega (arith, below)) v up.0) in
      other_first v.other a.other _ h lower

  pub vacuum_first : (r : ℕ) → 0 < length tables → r < length (table_at tables 0).rows → is_vacuum (table_at tables 0).over (characters_of k (table_at tables 0).rows) r ≡ true
      → (get_or (simples_of k tables) 0 no_simple).other ≡ false
  unfolding simples_of
  vacuum_first r some row ones =
      first_of (simples_of k tables) (simple_of k 0 (table_at tables 0) r) (ascending_ascends (rows_below k (length tables) tables)) (row_is_simple 0 r some row) (ap not ones)

-- what is kept of a simple
module _ (k : ℕ) (tables : List RowsOver) (entries : List (Entry k)) (same : map (simple_in k) entries ≡ simples_of k tables) where
  pub entries_count : length entries ≡ length (simples_of k tables)
  entries_count = sym (length-map entries (simple_in k)) ∙ ap length same

  pub entry_kept : (i : ℕ) (e : Entry k) → i < length (simples_of k tables) → e ≡ get_or entries i e → simple_in k e ≡ get_or (simples_of k tables) i no_simple
  entry_kept i e below is =
      ap (simple_in k) is ∙ sym (get_or-map (simple_in k) entries i e no_simple (rw entries_count below)) ∙ ap (λ xs. get_or xs i no_simple) same

  pub entry_is_row : (i : ℕ) (e : Entry k) → i < length (simples_of k tables) → e ≡ get_or entries i e → IsRow k tables (simple_in k e)
  entry_is_row i e below is = subst (IsRow k tables) (sym (entry_kept i e below is)) (simple_is_row k tables i below)

  -- its values
  pub values_count : (i : ℕ) (e : Entry k) → i < length (simples_of k tables) → e ≡ get_or entries i e → length e.values.items ≡ size (table_at tables e.class).over
  values_count i e below is =
      sym (length-map e.values.items (λ u. (cyclotomic_value k u.coefficients).coefficients)) ∙ ap (λ (a : Simple). length a.values) (entry_is_row i e below is).is ∙ length-map-range_with_len _ 0 (size (table_at tables e.class).over)

-- a number that was found passes the test
pub found_passes : (test : Bool) (n d : ℕ) → where_holds test n ≡ Some d → (test ≡ true) × (n ≡ d)
found_passes true n d e = (refl, ap (λ o. unwrap_or o n) e)
found_passes false n d e = absurd cc

-- a degree is at most the order
degree_small : (k m : ℕ) (u : CyclotomicValue k) → unwrap_or (degree_of k m u) 0 ≤ m
degree_small k m u = by (degree_of k m u) refl
  where
    by : (o : Option ℕ) → degree_of k m u ≡ o → unwrap_or o 0 ≤ m
    by None e = omega arith
    by (Some d) e =
        let found = first_some (suc m) (λ d. where_holds ((nat_le 1 d && nat_le (d * d) m) && is_same u (whole k d)) d) d e in
        let same = (found_passes ((nat_le 1 found.place && nat_le (found.place * found.place) m) && is_same u (whole k found.place)) found.place d found.here).1 in
        let below : found.place < suc m = found.below in
        omega (arith, same)

-- a twist is below K
pub twist_small : {k : ℕ} (s : TwistedSubgroup) (table : Characters k) (r t : ℕ) → twist_of s table r ≡ Some t → t < k
twist_small {k} s table r t e =
    let found = first_some k (λ t. where_holds (is_same (twist_left s table r).value (twist_right s table r t).value) t) t e in
    let same = (found_passes (is_same (twist_left s table r).value (twist_right s table r found.place).value) found.place t found.here).1 in
    let below : found.place < k = found.below in
    omega (arith, same)

at_is : (w : Cochain) (a : ℕ) → (twisted_centraliser w a).at ≡ a
unfolding twisted_centraliser
at_is w a = refl

module _ (k : ℕ) (s : SimplesOver) (S : AreSimples k s) where
  abbrev group : Table
  group = s.cocycle.group

  lawful : IsGroup group
  lawful = S.cocycle.cochain.group

  pub some_class : 0 < length s.tables
  some_class = rw S.tables.count (omega arith)

  -- the centraliser of a class
  pub over_is_twist : (c : ℕ) → c < length s.tables → IsTwist (table_at s.tables c).over
  over_is_twist c below =
      subst IsTwist (sym (S.tables.over c below))
      (centraliser_is_twist s.cocycle S.cocycle (representative_at group c) (representative_at_is group lawful c (rw (← S.tables.count) below)).below)

  -- that of the class of the identity
  own_identity : element (table_at s.tables 0).over (identity_of (table_at s.tables 0).over.group) ≡ (table_at s.tables 0).over.at
  own_identity =
      let over = S.tables.over 0 some_class in
      let below = (representative_at_is group lawful 0 (omega arith)).below in
      subst (λ t. element t (identity_of t.group) ≡ t.at) (sym over) (identities_agree s.cocycle S.cocycle (identity_of group) below ∙ sym (at_is s.cocycle (identity_of group)))

  pub vacuum_is : (0 < count k s) × IsVacuumAt k s 0
  vacuum_is =
      let table = table_at s.tables 0 in
      let (r, row, ones) = (S.good 0 some_class).vacuum own_identity in
      let test : is_vacuum table.over (characters_of k table.rows) r ≡ true =
      all_below-all (size table.over) (λ x. is_same ((characters_of k table.rows).chi r x) (value_one (cyclotomic k)))
      (λ x below. (is_same-Decides ((characters_of k table.rows).chi r x) (value_one (cyclotomic k))).1 (ones x below)) in
      let there = row_is_simple k s.tables 0 r some_class row in
      let some : 0 < count k s = let place = there.1 in omega (arith, place) in
      let is = simple_is_row k s.tables 0 some in
      let first = simple_at k s 0 in
      let other : not ((first.class == 0) && is_vacuum (table_at s.tables first.class).over (characters_of k (table_at s.tables first.class).rows) first.row) ≡ false =
      sym (ap (λ (a : Simple). a.other) is.is) ∙ vacuum_first k s.tables r some_class row test in
      let both = and_true (first.class == 0) _ (not_false _ other) in
      let class : first.class ≡ 0 = eqb-true first.class 0 both.0 in (
        some,
        record {
          class = class;
          representative = ap (representative_at group) class;
          values = λ p below.
              (is_same-Decides (value_at k s 0 p) (value_one (cyclotomic k))).0
              (all_below-at (size (over_at k s 0)) p (λ x. is_same (value_at k s 0 x) (value_one (cyclotomic k))) both.1 below);
        },
      )
    where
      not_false : (b : Bool) → not b ≡ false → b ≡ true
      not_false true e = refl
      not_false false e = absurd cc

-- the value of a kept simple at a place
pub kept_value : (k : ℕ) (s : SimplesOver) (entries : List (Entry k)) → map (simple_in k) entries ≡ simples_of k s.tables → (i p : ℕ) (e : Entry k) (u : Cyc k) → i < count k s
    → e ≡ get_or entries i e → p < size (over_at k s i) → u ≡ get_or e.values.items p u → cyclotomic_value k u.coefficients ≡ value_at k s i p
kept_value k s entries same i p e u below is place value =
    let kept = entry_kept k s.tables entries same i e below is in
    let row = entry_is_row k s.tables entries same i e below is in
    let t = table_at s.tables e.class in
    let there : p < size t.over = subst (λ (a : Simple). p < size (table_at s.tables a.class).over) (sym kept) place in
    let listed : coefficients_of k e.values.items ≡ map (λ q. ((characters_of k t.rows).chi e.row q).coefficients) (range_with_len 0 (size t.over)) = ap (λ (a : Simple). a.values) row.is in
    let long = values_count k s.tables entries same i e below is in
    let at : (cyclotomic_value k u.coefficients).coefficients ≡ ((characters_of k t.rows).chi e.row p).coefficients =
    ap (λ (v : Cyc k). (cyclotomic_value k v.coefficients).coefficients) value
    ∙ sym (get_or-map (λ (v : Cyc k). (cyclotomic_value k v.coefficients).coefficients) e.values.items p u [] (rw long there)) ∙ ap (λ xs. get_or xs p []) listed
    ∙ get_or-map-range_with_len (λ q. ((characters_of k t.rows).chi e.row q).coefficients) 0 (size t.over) p p [] there (zero-add p) in
    same_value (cyclotomic_value k u.coefficients) ((characters_of k t.rows).chi e.row p) at
    ∙ ap (λ (a : Simple). (characters_of k (table_at s.tables a.class).rows).chi a.row p) kept

-- a degree is at most 60
pub degree_at_most : (k : ℕ) (s : SimplesOver) → AreSimples k s → (i : ℕ) → i < count k s → degree_at k s i ≤ 60
degree_at_most k s S i below =
    let row = simple_is_row k s.tables i below in
    let t = table_at s.tables (class_at k s i) in
    let small = (over_is_twist k s S (class_at k s i) row.class_below).small.to_sixty in
    let degree : degree_at k s i ≤ size t.over =
    subst (λ (a : Simple). a.degree ≤ size t.over) (sym row.is) (degree_small k (size t.over) ((characters_of k t.rows).chi (simple_at k s i).row (identity_of t.over.group))) in
    omega (arith, degree, small)

-- the product of two numbers that are at most 60
pub product_small : (a b : ℕ) → a ≤ 60 → b ≤ 60 → a * b ≤ 3600
product_small a b p q = le_trans (mul-le-mul p q) (omega arith)

-- the place that stands for an element is one
pub place_small : (t : TwistedSubgroup) (P : ℕ → Type 0) (o : Option ℕ) (n : ℕ) → IsTwist t → IfSome o (λ p. (p < size t) × P p) → n ≡ unwrap_or o 0 → n < size t
place_small t P None n twist there e = omega (arith, e, twist.small.from_one)
place_small t P (Some p) n twist there e = let below = there.0 in omega (arith, e, below)

-- the places of a class are those of its centraliser
centraliser_places : (w : Cochain) (a : ℕ) → size (twisted_centraliser w a) ≡ length (centraliser_of w.group a)
unfolding twisted_centraliser
centraliser_places w a = refl

pub places_of : (s : SimplesOver) → HasTables s.cocycle s.tables → (c : ℕ) → c < length s.tables
    → size (table_at s.tables c).over ≡ length (centraliser_of s.cocycle.group (representative_at s.cocycle.group c))
places_of s has c below = ap (λ t. size t) (has.over c below) ∙ centraliser_places s.cocycle (representative_at s.cocycle.group c)
