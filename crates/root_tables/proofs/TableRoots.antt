-- The sides of the clauses on a table whose values are sums of few roots of unity: all of them fit.
use Rattle.root_tables.proofs.Names.{◌≡◌, ℕ, ◌*◌, ◌<◌, ◌≤◌, Bool, true, false, ◌&&◌, ◌==◌, if◌then◌else◌, refl, arith, mul-le-mul, ap₂, all_below-all, conjugate, is_conductor, one_root, TwistedSubgroup, size, phase, IsTwist, kappa, Characters, both_fit, Formed, given, whole, conjugated, multiplied, AreRootRows, RootRowsFit}
use Rattle.group_table.specs.Group.{inverse, identity_of}
use Rattle.group_table.proofs.Sentences.{identity_below, two_sided_inverse, closed}
use Rattle.cyclotomic.specs.CyclotomicRing.{root}
use Rattle.twisted.specs.Algebra.{left_quotient, exponent}
use Rattle.table_check.specs.Check.{twists_fit}
use Rattle.table_check.specs.Sides.{right_quotient, with_phase, degree_value, conjugate_value, unitary_left, unitary_right, twist_right, central_left, central_right, product_term, product_sum, product_left, product_right, sum_term, sum_left, sum_right, row_term, column_term, column_left, column_right}
use Rattle.root_tables.proofs.FormedRoots.{FormedOfRoots, of_roots, whole_formed, conjugated_formed, turned_formed, multiplied_formed, where_formed, listed_formed, few_fit, few_together}

-- a degree is at most 7
pub degree_few : (d m : ℕ) → d * d ≤ m → m ≤ 60 → d ≤ 7
degree_few d m square small = at_most (λ great. let m = mul-le-mul great great in omega (arith, m, square, small))
  where
    at_most : (8 ≤ d → ⊥) → d ≤ 7
    at_most not_great = omega arith

either_fits : {k : ℕ} (test : Bool) (u v : Formed k) → u.fits ≡ true → v.fits ≡ true → (if test then u else v).fits ≡ true
either_fits true u v u_fits v_fits = u_fits
either_fits false u v u_fits v_fits = v_fits

both : {k : ℕ} (u v : Formed k) → u.fits ≡ true → v.fits ≡ true → both_fit u v ≡ true
both u v u_fits v_fits = ap₂ (λ a b. a && b) u_fits v_fits

module _ (k : ℕ) (entry : is_conductor k ≡ true) (s : TwistedSubgroup) (twist : IsTwist s) (table : Characters k) (rows : AreRootRows s table) where
  identity_place : identity_of s.group < size s
  identity_place = identity_below s.group twist.group

  inverse_place : (x : ℕ) → x < size s → inverse s.group x < size s
  inverse_place x below = (two_sided_inverse s.group twist.group x below).below

  left_place : (y x : ℕ) → y < size s → x < size s → left_quotient s y x < size s
  left_place y x y_below x_below = closed s.group (inverse s.group y) x twist.group (inverse_place y y_below) x_below

  right_place : (x y : ℕ) → x < size s → y < size s → right_quotient s x y < size s
  right_place x y x_below y_below = closed s.group x (inverse s.group y) twist.group x_below (inverse_place y y_below)

  -- ---- the values
  value_formed : (i x : ℕ) → i < table.count → x < size s → FormedOfRoots 7 (given k (table.chi i x))
  value_formed i x i_below x_below =
      let row = rows.row i i_below in
      of_roots k entry row.degree 7 (table.chi i x) (degree_few row.degree (size s) row.square twist.small.to_sixty) (row.roots x x_below)

  degree_formed : (i : ℕ) → i < table.count → FormedOfRoots 7 (degree_value s table i)
  degree_formed i i_below = value_formed i (identity_of s.group) i_below identity_place

  conjugate_formed : (i x : ℕ) → i < table.count → x < size s → FormedOfRoots 7 (conjugate_value s table i x)
  conjugate_formed i x i_below x_below = conjugated_formed k entry 7 (given k (table.chi i x)) (few_fit 7 (omega arith)) (value_formed i x i_below x_below)

  phased_formed : (p r i x : ℕ) → i < table.count → x < size s → FormedOfRoots 7 (with_phase s p r (conjugate_value s table i x))
  phased_formed p r i x i_below x_below =
      turned_formed k entry 7 (conjugate_value s table i x) (few_fit 7 (omega arith)) (conjugate_formed i x i_below x_below) (exponent k s (phase s p r))

  -- ---- the clauses on the values of one row
  unitary_fits : (i x : ℕ) → i < table.count → x < size s → both_fit (unitary_left s table i x) (unitary_right s table i x) ≡ true
  unitary_fits i x i_below x_below =
      both (unitary_left s table i x) (unitary_right s table i x) refl (phased_formed x (inverse s.group x) i x i_below x_below).fits

  twist_fits : (i : ℕ) → i < table.count → twists_fit s table i ≡ true
  twist_fits i i_below =
      all_below-all k (λ t. (twist_right s table i t).fits)
      (λ t below. (turned_formed k entry 7 (degree_value s table i) (few_fit 7 (omega arith)) (degree_formed i i_below) t).fits)

  central_fits : (i y x : ℕ) → i < table.count → y < size s → x < size s → both_fit (central_left s table i y x) (central_right s table i y x) ≡ true
  central_fits i y x i_below y_below x_below =
      both (central_left s table i y x) (central_right s table i y x)
      (phased_formed y (left_quotient s y x) i (left_quotient s y x) i_below (left_place y x y_below x_below)).fits
      (phased_formed (right_quotient s x y) y i (right_quotient s x y) i_below (right_place x y x_below y_below)).fits

  -- ---- the products of two rows
  module _ (i j x : ℕ) (i_below : i < table.count) (j_below : j < table.count) (x_below : x < size s) where
    product_term_formed : (y : ℕ) → y < size s → FormedOfRoots 49 (product_term s table i j x y)
    product_term_formed y y_below =
        turned_formed k entry 49 (multiplied k (conjugate_value s table i y) (conjugate_value s table j (left_quotient s y x))) (few_fit 49 (omega arith))
        (multiplied_formed k entry 7 7 (conjugate_value s table i y) (conjugate_value s table j (left_quotient s y x)) (few_together 49 (omega arith))
        (conjugate_formed i y i_below y_below) (conjugate_formed j (left_quotient s y x) j_below (left_place y x y_below x_below)))
        (exponent k s (phase s y (left_quotient s y x)))

    product_sum_formed : FormedOfRoots (size s * 49) (product_sum s table i j x)
    product_sum_formed =
        listed_formed k entry (size s) 49 (product_term s table i j x) (few_fit (size s * 49) (omega (arith, twist.small.to_sixty))) product_term_formed

    product_left_fits : (product_left s table i j x).fits ≡ true
    product_left_fits =
        either_fits (i == j) (multiplied k (degree_value s table i) (product_sum s table i j x)) (product_sum s table i j x)
        (multiplied_formed k entry 7 (size s * 49) (degree_value s table i) (product_sum s table i j x)
        (few_together (7 * (size s * 49)) (omega (arith, twist.small.to_sixty))) (degree_formed i i_below) product_sum_formed).fits product_sum_formed.fits

    product_right_fits : (product_right s table i j x).fits ≡ true
    product_right_fits =
        (where_formed k entry (i == j) (size s * 7) (multiplied k (given k (whole k (size s))) (conjugate_value s table i x))
        (multiplied_formed k entry (size s) 7 (given k (whole k (size s))) (conjugate_value s table i x)
        (few_together (size s * 7) (omega (arith, twist.small.to_sixty))) (whole_formed k entry (size s) (size s) (omega arith))
        (conjugate_formed i x i_below x_below))).fits

  -- ---- the sums over all rows
  sum_fits : (x : ℕ) → x < size s → both_fit (sum_left s table x) (sum_right s table x) ≡ true
  sum_fits x x_below =
      both (sum_left s table x) (sum_right s table x)
      (listed_formed k entry table.count 49 (sum_term s table x) (few_fit (table.count * 49) (omega (arith, rows.count, twist.small.to_sixty)))
      (λ i i_below. multiplied_formed k entry 7 7 (degree_value s table i) (conjugate_value s table i x) (few_together 49 (omega arith))
      (degree_formed i i_below) (conjugate_formed i x i_below x_below))).fits
      (where_formed k entry (x == identity_of s.group) (size s) (given k (whole k (size s))) (whole_formed k entry (size s) (size s) (omega arith))).fits

  column_term_formed : (x y c : ℕ) → FormedOfRoots 1 (column_term {k = k} s x y c)
  column_term_formed x y c =
      where_formed k entry (conjugate s.group c x == y) 1 (conjugated k (given k (root k (exponent k s (kappa s c x)))))
      (conjugated_formed k entry 1 (given k (root k (exponent k s (kappa s c x)))) (few_fit 1 (omega arith))
      (of_roots k entry 1 1 (root k (exponent k s (kappa s c x))) (omega arith) (one_root k (exponent k s (kappa s c x)))))

  column_fits : (x y : ℕ) → x < size s → y < size s → both_fit (column_left s table x y) (column_right s table x y) ≡ true
  column_fits x y x_below y_below =
      both (column_left s table x y) (column_right s table x y)
      (listed_formed k entry table.count 49 (row_term s table x y) (few_fit (table.count * 49) (omega (arith, rows.count, twist.small.to_sixty)))
      (λ i i_below. multiplied_formed k entry 7 7 (conjugate_value s table i x) (given k (table.chi i y)) (few_together 49 (omega arith))
      (conjugate_formed i x i_below x_below) (value_formed i y i_below y_below))).fits
      (listed_formed k entry (size s) 1 (column_term {k = k} s x y) (few_fit (size s * 1) (omega (arith, twist.small.to_sixty)))
      (λ c c_below. column_term_formed x y c)).fits

-- no side overflows anywhere
pub root_rows_fit : RootRowsFit
root_rows_fit k entry s twist table rows = record {
  unitary = unitary_fits k entry s twist table rows;
  twist = twist_fits k entry s twist table rows;
  central = central_fits k entry s twist table rows;
  product = λ i j x i_below j_below x_below.
      both (product_left s table i j x) (product_right s table i j x) (product_left_fits k entry s twist table rows i j x i_below j_below x_below)
      (product_right_fits k entry s twist table rows i j x i_below j_below x_below);
  sum = sum_fits k entry s twist table rows;
  column = column_fits k entry s twist table rows;
}
