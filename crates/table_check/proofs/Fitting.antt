-- A good table whose sides fit misses nothing.
use Rattle.table_check.proofs.Names.{◌≡◌, ◌<◌, ◌*◌, ◌&&◌, ℕ, suc, Bool, true, false, Option, Some, None, refl, sym, ◌∙◌, nat_le, arith, is_some, IfSome, le-leb, false≢true, eqb-true, eq-eqb, first, all_below-all, both, let_in, first_finds, is_some_of, identity_of, cyclotomic, value_one, CyclotomicValue, TwistedSubgroup, size, element, rank, Characters, Formed, whole, unitary_left, unitary_right, twist_left, twist_right, central_left, central_right, product_left, product_right, sum_left, sum_right, column_left, column_right, IsDegree, IsGood, is_same, where_holds, agree, degree_of, twist_of, is_vacuum, has_vacuum, twists_fit, table_miss}
use Rattle.std.proofs.Math.Nat.{le-mul_of_pos_right}
use Rattle.table_check.specs.Fitting.{both_fit, SidesFit, GoodTablesMissNothing}
use Rattle.table_check.proofs.Found.{HoldsOfEach, holds_of_miss}
use Rattle.table_check.proofs.Same.{is_same-Decides}

-- where a number passes the test, one is found
found_there : (n i : ℕ) (test : ℕ → Bool) → i < n → test i ≡ true → is_some (first n (λ j. where_holds (test j) j)) ≡ true
found_there n i test inside passes =
    let found = first_finds n i (λ j. where_holds (test j) j) i inside (let_in (test i) i passes) in
    is_some_of (first n (λ j. where_holds (test j) j)) found.0 found.1

agreed : {k : ℕ} (left right : Formed k) → both_fit left right ≡ true → left.value ≡ right.value → agree left right ≡ true
agreed left right fit same = both (left.fits && right.fits) (is_same left.value right.value) fit ((is_same-Decides left.value right.value).1 same)

degree_found : (k m : ℕ) (u : CyclotomicValue k) → IsDegree k m u → is_some (degree_of k m u) ≡ true
degree_found k m u d =
    found_there (suc m) d.degree (λ n. (nat_le 1 n && nat_le (n * n) m) && is_same u (whole k n))
    (omega (arith, d.square, le-mul_of_pos_right {m = d.degree} d.degree (omega (arith, d.positive))))
    (both (nat_le 1 d.degree && nat_le (d.degree * d.degree) m) (is_same u (whole k d.degree))
    (both (nat_le 1 d.degree) (nat_le (d.degree * d.degree) m) (le-leb 1 d.degree d.positive) (le-leb (d.degree * d.degree) m d.square))
    ((is_same-Decides u (whole k d.degree)).1 d.same))

-- nothing is found where whatever is found is absurd
none_found : {A : Type 0} (o : Option A) → IfSome o (λ x. ⊥) → o ≡ None
none_found None absurd_there = refl
none_found (Some x) absurd_there = absurd absurd_there

-- a test that holds doesn't fail
holds_not_fails : (test : Bool) → test ≡ true → test ≡ false → ⊥
holds_not_fails test holds fails = false≢true (sym fails ∙ holds)

module _ {k : ℕ} (s : TwistedSubgroup) (table : Characters k) (good : IsGood s table) (fit : SidesFit s table) where
  twist_found : (i : ℕ) → i < table.count → is_some (twist_of s table i) ≡ true
  twist_found i row =
      let t = good.twist i row in
      found_there k t.twist (λ v. is_same (twist_left s table i).value (twist_right s table i v).value) t.below
      ((is_same-Decides (twist_left s table i).value (twist_right s table i t.twist).value).1 t.same)

  vacuum_found : element s (identity_of s.group) ≡ s.at → has_vacuum s table ≡ true
  vacuum_found here =
      let v = good.vacuum here in
      found_there table.count v.0 (is_vacuum s table) v.1
      (all_below-all (size s) (λ x. is_same (table.chi v.0 x) (value_one (cyclotomic k)))
      (λ x place. (is_same-Decides (table.chi v.0 x) (value_one (cyclotomic k))).1 (v.2 x place)))

  none_fails : HoldsOfEach s table (λ miss. ⊥)
  none_fails = record {
    count = holds_not_fails _ (eq-eqb table.count (rank s) good.count);
    degree = λ i row. holds_not_fails _ (degree_found k (size s) (table.chi i (identity_of s.group)) (good.degree i row));
    unitary = λ i x row place.
        holds_not_fails _ (agreed (unitary_left s table i x) (unitary_right s table i x) (fit.unitary i x row place) (good.unitary i x row place));
    twist = λ i row. holds_not_fails _ (both (twists_fit s table i) (is_some (twist_of s table i)) (fit.twist i row) (twist_found i row));
    central = λ i y x row other place.
        holds_not_fails _
        (agreed (central_left s table i y x) (central_right s table i y x) (fit.central i y x row other place) (good.central i y x row other place));
    product = λ i j x row other place.
        holds_not_fails _
        (agreed (product_left s table i j x) (product_right s table i j x) (fit.product i j x row other place) (good.product i j x row other place));
    sum = λ x place. holds_not_fails _ (agreed (sum_left s table x) (sum_right s table x) (fit.sum x place) (good.sum x place));
    column = λ x y place other.
        holds_not_fails _
        (agreed (column_left s table x y) (column_right s table x y) (fit.column x y place other) (good.column x y place other));
    vacuum = λ own. holds_not_fails _ (vacuum_found (eqb-true (element s (identity_of s.group)) s.at own));
  }

  pub good_misses_nothing : table_miss s table ≡ None
  good_misses_nothing = none_found (table_miss s table) (holds_of_miss s table (λ miss. ⊥) none_fails)

pub good_tables_miss_nothing : GoodTablesMissNothing
good_tables_miss_nothing k s table good fit = good_misses_nothing s table good fit
