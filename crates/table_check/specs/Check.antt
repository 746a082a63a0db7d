-- The first place at which a table of characters misses what is asked: where a side overflows, or the clause fails. The clauses are the
-- slowest, then rows, then places, each in ascending order, and at a place both sides are formed before they are compared.
use Rattle.std.specs.Prelude.{ℕ, suc, ◌*◌, nat_le, Bool, ◌==◌, ◌&&◌, Option, Some, None, is_some, if◌then◌else◌}
use Rattle.std.specs.Ordering.{int_eq}
use lib.Pointwise.{pointwise}
use Rattle.scan.specs.First.{first, option_or, all_below}
use Rattle.group_table.specs.Group.{identity_of}
use Rattle.cyclotomic.specs.Cyclotomic.{cyclotomic}
use Rattle.cyclotomic.specs.Ring.{Value, value_one}
use Rattle.cyclotomic.specs.CyclotomicRing.{CyclotomicValue}
use Rattle.twisted.specs.Twist.{TwistedSubgroup, size, element}
use Rattle.twisted.specs.Regular.{rank}
use Rattle.table_check.specs.Characters.{Characters}
use Rattle.table_check.specs.Formed.{Formed, whole}
use Rattle.table_check.specs.Sides.{unitary_left, unitary_right, twist_left, twist_right, central_left, central_right, product_left, product_right, sum_left, sum_right, column_left, column_right}
use Rattle.table_check.specs.declared.miss.Clause.{Clause}
use Rattle.table_check.specs.declared.miss.Clause.TheVariants.{Count, Degree, Unitary, Twist, Central, Product, Sum, Column, Vacuum}
use Rattle.table_check.specs.declared.miss.Miss.{Miss}

-- two values have the same coefficients
abbrev pub is_same : {n : ℕ} → Value n → Value n → Bool
is_same u v = pointwise int_eq u.coefficients v.coefficients

-- the number of a test that holds, else nothing
abbrev pub where_holds : Bool → ℕ → Option ℕ
where_holds test n = if test then Some n else None

-- nothing where the test holds, else the place of the clause
abbrev pub unless_holds : Bool → Clause → ℕ → ℕ → ℕ → Option Miss
unless_holds test clause i j x = if test then None else Some (record { clause = clause; i = i; j = j; x = x })

-- no side overflows, and the two are the same
abbrev pub agree : {k : ℕ} → Formed k → Formed k → Bool
agree left right = (left.fits && right.fits) && is_same left.value right.value

-- the degree d with 1 ≤ d and d d ≤ m that a value is, if it is one
abbrev pub degree_of : (k m : ℕ) → CyclotomicValue k → Option ℕ
degree_of k m u = first (suc m) (λ d. where_holds ((nat_le 1 d && nat_le (d * d) m) && is_same u (whole k d)) d)

module _ {k : ℕ} (s : TwistedSubgroup) (table : Characters k) where
  -- chi_i(a) = x^t d_i
  abbrev pub has_twist : ℕ → ℕ → Bool
  has_twist i t = is_same (twist_left s table i).value (twist_right s table i t).value

  -- the least such t, if there is one
  abbrev pub twist_of : ℕ → Option ℕ
  twist_of i = first k (λ t. where_holds (has_twist i t) t)

  -- every value of row i is 1
  abbrev pub is_vacuum : ℕ → Bool
  is_vacuum i = all_below (size s) (λ x. is_same (table.chi i x) (value_one (cyclotomic k)))

  -- as many rows as the rank
  abbrev pub count_miss : Option Miss
  count_miss = unless_holds (table.count == rank s) Count 0 0 0

  -- row i has a degree
  abbrev pub degree_at : ℕ → Option Miss
  degree_at i = unless_holds (is_some (degree_of k (size s) (table.chi i (identity_of s.group)))) Degree i 0 (identity_of s.group)

  abbrev pub degree_miss : Option Miss
  degree_miss = first table.count degree_at

  -- the value of row i at the inverse of x
  abbrev pub unitary_at : ℕ → ℕ → Option Miss
  unitary_at i x = unless_holds (agree (unitary_left s table i x) (unitary_right s table i x)) Unitary i 0 x

  abbrev pub unitary_miss : Option Miss
  unitary_miss = first table.count (λ i. first (size s) (unitary_at i))

  -- no multiple of d_i by a root overflows
  abbrev pub twists_fit : ℕ → Bool
  twists_fit i = all_below k (λ t. (twist_right s table i t).fits)

  -- row i has a twist
  abbrev pub twist_at : ℕ → Option Miss
  twist_at i = unless_holds (twists_fit i && is_some (twist_of i)) Twist i 0 0

  abbrev pub twist_miss : Option Miss
  twist_miss = first table.count twist_at

  -- E_i and u_y, at x; y is slower than x
  abbrev pub central_at : ℕ → ℕ → ℕ → Option Miss
  central_at i y x = unless_holds (agree (central_left s table i y x) (central_right s table i y x)) Central i y x

  abbrev pub central_miss : Option Miss
  central_miss = first table.count (λ i. first (size s) (λ y. first (size s) (central_at i y)))

  -- E_i and E_j, at x
  abbrev pub product_at : ℕ → ℕ → ℕ → Option Miss
  product_at i j x = unless_holds (agree (product_left s table i j x) (product_right s table i j x)) Product i j x

  abbrev pub product_miss : Option Miss
  product_miss = first table.count (λ i. first table.count (λ j. first (size s) (product_at i j)))

  -- the sum at x
  abbrev pub sum_at : ℕ → Option Miss
  sum_at x = unless_holds (agree (sum_left s table x) (sum_right s table x)) Sum 0 0 x

  abbrev pub sum_miss : Option Miss
  sum_miss = first (size s) sum_at

  -- the columns of x and y, where y is the second number; x is slower than y
  abbrev pub column_at : ℕ → ℕ → Option Miss
  column_at x y = unless_holds (agree (column_left s table x y) (column_right s table x y)) Column 0 y x

  abbrev pub column_miss : Option Miss
  column_miss = first (size s) (λ x. first (size s) (column_at x))

  -- some row has only the value 1
  abbrev pub has_vacuum : Bool
  has_vacuum = is_some (first table.count (λ i. where_holds (is_vacuum i) i))

  -- asked only of the centraliser of the identity
  abbrev pub vacuum_miss : Option Miss
  vacuum_miss =
      if element s (identity_of s.group) == s.at
      then unless_holds has_vacuum Vacuum 0 0 0
      else None

  -- the clauses on the values of each row
  abbrev pub row_miss : Option Miss
  row_miss = option_or count_miss (option_or degree_miss (option_or unitary_miss twist_miss))

  -- the clauses on the elements E_i
  abbrev pub algebra_miss : Option Miss
  algebra_miss = option_or central_miss (option_or product_miss (option_or sum_miss (option_or column_miss vacuum_miss)))

  unfoldable pub table_miss : Option Miss
  table_miss = option_or row_miss algebra_miss
