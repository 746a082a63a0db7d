-- What holds of a table holds of it with its rows in another order.
use Rattle.row_order.proofs.Names.{◌≡◌, ℕ, zero, suc, ◌<◌, ◌≤◌, Bool, true, false, ◌==◌, if◌then◌else◌, refl, sym, ap, ◌∙◌, subst, eq-eqb, eqb-true, fun_ext, identity_of, CyclotomicValue, cyclotomic_ring, TwistedSubgroup, size, Characters, IsDegree, HasTwist, IsGood, IsRootRow, AreRootRows, IsReordering, GoodInAnyOrder, RootRowsInAnyOrder}
use Rattle.algebra.specs.Sums.{sum_below}
use Rattle.algebra.proofs.SumLaws.{sum_ext, sum_reindex}
use Rattle.table_check.specs.Formed.{given, whole, multiplied, where_so}
use Rattle.table_check.specs.Sides.{degree_value, conjugate_value, unitary_left, unitary_right, twist_left, twist_right, central_left, central_right, product_sum, sum_term, row_term}

-- two tests that hold together are the same
same_test : (a b : Bool) → (a ≡ true → b ≡ true) → (b ≡ true → a ≡ true) → a ≡ b
same_test true true p q = refl
same_test true false p q = sym (p refl)
same_test false true p q = q refl
same_test false false p q = refl

-- a table of one row, and one of two
abbrev alone : {k : ℕ} → (ℕ → CyclotomicValue k) → Characters k
alone {k} row = record { count = 1; chi = λ i. row }

abbrev one_of : {A : Type 0} → A → A → ℕ → A
one_of a b zero = a
one_of a b (suc n) = b

abbrev pair : {k : ℕ} → (ℕ → CyclotomicValue k) → (ℕ → CyclotomicValue k) → Characters k
pair {k} row other = record { count = 2; chi = one_of row other }

-- the two sides of the clause on products, of two rows that are one or not
abbrev products_agree : (k : ℕ) → TwistedSubgroup → ℕ → Bool → (ℕ → CyclotomicValue k) → (ℕ → CyclotomicValue k) → Type 0
products_agree k s x same row other =
    (if same then multiplied k (degree_value s (pair row other) 0) (product_sum s (pair row other) 0 1 x) else product_sum s (pair row other) 0 1 x).value
    ≡ (where_so k same (multiplied k (given k (whole k (size s))) (conjugate_value s (pair row other) 0 x))).value

module _ {k : ℕ} (s : TwistedSubgroup) (table other : Characters k) (R : IsReordering table other) where
  here : (i : ℕ) → i < other.count → i < table.count
  here i below = subst (λ n. i < n) R.count below

  row_is : (i : ℕ) → i < other.count → table.chi (R.place i) ≡ other.chi i
  row_is i below = fun_ext (λ x. sym (R.same i x (here i below)))

  place_there : (i : ℕ) → i < other.count → R.place i < table.count
  place_there i below = R.place_below i (here i below)

  one_place : (i j : ℕ) → i < other.count → j < other.count → (R.place i == R.place j) ≡ (i == j)
  one_place i j i_below j_below =
      same_test (R.place i == R.place j) (i == j)
      (λ e. eq-eqb i j (sym (R.back_place i (here i i_below)) ∙ ap R.back (eqb-true (R.place i) (R.place j) e) ∙ R.back_place j (here j j_below)))
      (λ e. eq-eqb (R.place i) (R.place j) (ap R.place (eqb-true i j e)))

  -- a sum over the rows
  sum_of_rows : (f : (ℕ → CyclotomicValue k) → CyclotomicValue k)
      → sum_below (cyclotomic_ring k) other.count (λ i. f (other.chi i)) ≡ sum_below (cyclotomic_ring k) table.count (λ i. f (table.chi i))
  sum_of_rows f =
      sum_ext (cyclotomic_ring k) other.count (λ i. f (other.chi i)) (λ i. f (table.chi (R.place i))) (λ i below. ap f (sym (row_is i below)))
      ∙ ap (λ n. sum_below (cyclotomic_ring k) n (λ i. f (table.chi (R.place i)))) R.count
      ∙ sum_reindex (cyclotomic_ring k) table.count R.place R.back R.place_below R.back_below R.back_place R.place_back (λ i. f (table.chi i))

  module _ (good : IsGood s table) where
    twist_there : (i : ℕ) → i < other.count → HasTwist s other i
    twist_there i below =
        let has = good.twist (R.place i) (place_there i below) in
        record {
          twist = has.twist;
          below = has.below;
          same = subst (λ (row : ℕ → CyclotomicValue k). (twist_left s (alone row) 0).value ≡ (twist_right s (alone row) 0 has.twist).value) (row_is i below) has.same;
        }

    product_there : (i j x : ℕ) → i < other.count → j < other.count → x < size s → products_agree k s x (i == j) (other.chi i) (other.chi j)
    product_there i j x i_below j_below x_below =
        subst (λ (row : ℕ → CyclotomicValue k). products_agree k s x (i == j) (other.chi i) row) (row_is j j_below)
        (subst (λ (row : ℕ → CyclotomicValue k). products_agree k s x (i == j) row (table.chi (R.place j))) (row_is i i_below)
        (subst (λ (b : Bool). products_agree k s x b (table.chi (R.place i)) (table.chi (R.place j))) (one_place i j i_below j_below)
        (good.product (R.place i) (R.place j) x (place_there i i_below) (place_there j j_below) x_below)))

    reordered_good : IsGood s other
    reordered_good = record {
      count = R.count ∙ good.count;
      degree = λ i below.
          subst (λ (row : ℕ → CyclotomicValue k). IsDegree k (size s) (row (identity_of s.group))) (row_is i below) (good.degree (R.place i) (place_there i below));
      unitary = λ i x below x_below.
          subst (λ (row : ℕ → CyclotomicValue k). (unitary_left s (alone row) 0 x).value ≡ (unitary_right s (alone row) 0 x).value) (row_is i below)
          (good.unitary (R.place i) x (place_there i below) x_below);
      twist = twist_there;
      central = λ i y x below y_below x_below.
          subst (λ (row : ℕ → CyclotomicValue k). (central_left s (alone row) 0 y x).value ≡ (central_right s (alone row) 0 y x).value) (row_is i below)
          (good.central (R.place i) y x (place_there i below) y_below x_below);
      product = product_there;
      sum = λ x below. sum_of_rows (λ row. (sum_term s (alone row) x 0).value) ∙ good.sum x below;
      column = λ x y x_below y_below. sum_of_rows (λ row. (row_term s (alone row) x y 0).value) ∙ good.column x y x_below y_below;
      vacuum = λ own.
          let (i, below, ones) = good.vacuum own in (
            R.back i,
            subst (λ n. R.back i < n) (sym R.count) (R.back_below i below),
            λ x x_below. R.same (R.back i) x (R.back_below i below) ∙ ap (λ n. table.chi n x) (R.place_back i below) ∙ ones x x_below,
          );
    }

  reordered_roots : AreRootRows s table → AreRootRows s other
  reordered_roots rows = record {
    count = subst (λ n. n ≤ size s) (sym R.count) rows.count;
    row = λ i below. subst (IsRootRow k (size s)) (row_is i below) (rows.row (R.place i) (place_there i below));
  }

pub good_in_any_order : GoodInAnyOrder
good_in_any_order k s table other reordering good = reordered_good s table other reordering good

pub root_rows_in_any_order : RootRowsInAnyOrder
root_rows_in_any_order k s table other reordering rows = reordered_roots s table other reordering rows
