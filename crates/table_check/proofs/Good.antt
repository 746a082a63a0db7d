-- Where nothing is missed, the table is good.
use Rattle.table_check.proofs.Names.{◌≡◌, ◌≤◌, ◌<◌, ◌*◌, ◌&&◌, ℕ, suc, true, Option, Some, None, subst, eqb-true, eq-eqb, if◌then◌else◌, nat_le, is_some, leb-true, first, first_none-at, first_some, or_none, and_true, all_below-at, passes, let_through, some_of, identity_of, cyclotomic, value_one, CyclotomicValue, TwistedSubgroup, size, element, rank, Characters, Formed, whole, unitary_left, unitary_right, twist_left, twist_right, central_left, central_right, product_left, product_right, sum_left, sum_right, column_left, column_right, IsVacuum, IsGood, is_same, where_holds, unless_holds, agree, degree_of, twist_of, is_vacuum, has_vacuum, count_miss, degree_at, degree_miss, unitary_miss, twists_fit, twist_at, twist_miss, central_miss, product_miss, sum_miss, column_miss, vacuum_miss, row_miss, algebra_miss, Miss, Vacuum}
use Rattle.table_check.specs.Check.{table_miss}
use Rattle.table_check.proofs.Same.{is_same-Decides}

-- two sides that agree have one value
same_sides : {k : ℕ} (left right : Formed k) (miss : Miss) → (if agree left right then None else Some miss) ≡ None → left.value ≡ right.value
same_sides left right miss none =
    let agreed = passes (agree left right) miss none in
    (is_same-Decides left.value right.value).0 (and_true (left.fits && right.fits) (is_same left.value right.value) agreed).1

-- the degree that was found is one
pub degree_there : (k m d : ℕ) (u : CyclotomicValue k) → degree_of k m u ≡ Some d → (1 ≤ d) × (d * d ≤ m) × (u ≡ whole k d)
degree_there k m d u found =
    let at = first_some (suc m) (λ n. where_holds ((nat_le 1 n && nat_le (n * n) m) && is_same u (whole k n)) n) d found in
    let there = let_through ((nat_le 1 at.place && nat_le (at.place * at.place) m) && is_same u (whole k at.place)) at.place d at.here in
    let test = and_true (nat_le 1 at.place && nat_le (at.place * at.place) m) (is_same u (whole k at.place)) there.0 in
    let sizes = and_true (nat_le 1 at.place) (nat_le (at.place * at.place) m) test.0 in
    subst (λ n. (1 ≤ n) × (n * n ≤ m) × (u ≡ whole k n)) there.1
    (leb-true 1 at.place sizes.0, leb-true (at.place * at.place) m sizes.1, (is_same-Decides u (whole k at.place)).0 test.1)

module _ {k : ℕ} (s : TwistedSubgroup) (table : Characters k) where
  -- so is the twist that was found
  pub twist_there : (i t : ℕ) → twist_of s table i ≡ Some t → (t < k) × ((twist_left s table i).value ≡ (twist_right s table i t).value)
  twist_there i t found =
      let at = first_some k (λ v. where_holds (is_same (twist_left s table i).value (twist_right s table i v).value) v) t found in
      let there = let_through (is_same (twist_left s table i).value (twist_right s table i at.place).value) at.place t at.here in
      subst (λ v. (v < k) × ((twist_left s table i).value ≡ (twist_right s table i v).value)) there.1
      (at.below, (is_same-Decides (twist_left s table i).value (twist_right s table i at.place).value).0 there.0)

  vacuum_there : has_vacuum s table ≡ true → (i : ℕ) × (i < table.count) × IsVacuum s table i
  vacuum_there holds =
      let found = some_of (first table.count (λ i. where_holds (is_vacuum s table i) i)) holds in
      let at = first_some table.count (λ i. where_holds (is_vacuum s table i) i) found.0 found.1 in (
        at.place,
        at.below,
        λ x place. (is_same-Decides (table.chi at.place x) (value_one (cyclotomic k))).0
            (all_below-at (size s) x (λ y. is_same (table.chi at.place y) (value_one (cyclotomic k))) (let_through _ at.place found.0 at.here).0 place),
      )

  -- the parts of what is not missed
  pub record Clauses : Type 0 where
    pub count : count_miss s table ≡ None
    pub degree : degree_miss s table ≡ None
    pub unitary : unitary_miss s table ≡ None
    pub twist : twist_miss s table ≡ None
    pub central : central_miss s table ≡ None
    pub product : product_miss s table ≡ None
    pub sum : sum_miss s table ≡ None
    pub column : column_miss s table ≡ None
    pub vacuum : vacuum_miss s table ≡ None

  pub clauses : table_miss s table ≡ None → Clauses
  unfolding table_miss
  clauses none =
      let both = or_none (row_miss s table) (algebra_miss s table) none in
      let row = or_none (count_miss s table) _ both.0 in
      let later_row = or_none (degree_miss s table) _ row.1 in
      let last_row = or_none (unitary_miss s table) (twist_miss s table) later_row.1 in
      let central = or_none (central_miss s table) _ both.1 in
      let product = or_none (product_miss s table) _ central.1 in
      let sum = or_none (sum_miss s table) _ product.1 in
      let column = or_none (column_miss s table) (vacuum_miss s table) sum.1 in
      record {
        count = row.0;
        degree = later_row.0;
        unitary = last_row.0;
        twist = last_row.1;
        central = central.0;
        product = product.0;
        sum = sum.0;
        column = column.0;
        vacuum = column.1;
      }

  -- row i has a degree
  pub degree_is : (i : ℕ) → degree_miss s table ≡ None → i < table.count → is_some (degree_of k (size s) (table.chi i (identity_of s.group))) ≡ true
  degree_is i none row = passes _ _ (first_none-at table.count i (degree_at s table) none row)

  -- row i has a twist, and no root multiple of its degree overflows
  pub twist_is : (i : ℕ) → twist_miss s table ≡ None → i < table.count → (twists_fit s table i ≡ true) × (is_some (twist_of s table i) ≡ true)
  twist_is i none row = and_true (twists_fit s table i) (is_some (twist_of s table i)) (passes _ _ (first_none-at table.count i (twist_at s table) none row))

  -- where nothing is missed, the table is good
  pub nothing_missed : table_miss s table ≡ None → IsGood s table
  nothing_missed none =
      let e = identity_of s.group in
      let c = clauses none in
      record {
        count = eqb-true table.count (rank s) (passes _ _ c.count);
        degree = λ i row.
            let there = some_of (degree_of k (size s) (table.chi i e)) (degree_is i c.degree row) in
            let d = degree_there k (size s) there.0 (table.chi i e) there.1 in
            record { degree = there.0; positive = d.0; square = d.1; same = d.2 };
        unitary = λ i x row place.
            same_sides (unitary_left s table i x) (unitary_right s table i x) _ (first_none-at _ x _ (first_none-at _ i _ c.unitary row) place);
        twist = λ i row.
            let there = some_of (twist_of s table i) (twist_is i c.twist row).1 in
            let t = twist_there i there.0 there.1 in
            record { twist = there.0; below = t.0; same = t.1 };
        central = λ i y x row other place.
            same_sides (central_left s table i y x) (central_right s table i y x) _
            (first_none-at _ x _ (first_none-at _ y _ (first_none-at _ i _ c.central row) other) place);
        product = λ i j x row other place.
            same_sides (product_left s table i j x) (product_right s table i j x) _
            (first_none-at _ x _ (first_none-at _ j _ (first_none-at _ i _ c.product row) other) place);
        sum = λ x place. same_sides (sum_left s table x) (sum_right s table x) _ (first_none-at _ x _ c.sum place);
        column = λ x y place other.
            same_sides (column_left s table x y) (column_right s table x y) _ (first_none-at _ y _ (first_none-at _ x _ c.column place) other);
        vacuum = λ here. vacuum_there (passes (has_vacuum s table) _ (rw (eq-eqb (element s (identity_of s.group)) s.at here) at c.vacuum));
      }
