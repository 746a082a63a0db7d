-- What holds of each place that may be missed holds of the place that is missed first.
use Rattle.table_check.proofs.Names.{◌≡◌, ◌<◌, ◌&&◌, ◌==◌, ℕ, zero, suc, Bool, true, false, Option, Some, None, refl, arith, if◌then◌else◌, is_some, IfSome, first, option_or, first-zero, first-suc, identity_of, TwistedSubgroup, size, element, rank, Characters, unitary_left, unitary_right, central_left, central_right, product_left, product_right, sum_left, sum_right, column_left, column_right, unless_holds, agree, degree_of, twist_of, twists_fit, has_vacuum, count_miss, degree_at, degree_miss, unitary_at, unitary_miss, twist_at, twist_miss, central_at, central_miss, product_at, product_miss, sum_at, sum_miss, column_at, column_miss, vacuum_miss, row_miss, algebra_miss, Clause, Count, Degree, Unitary, Twist, Central, Product, Sum, Column, Vacuum, Miss}
use Rattle.table_check.specs.Check.{table_miss}

abbrev pub at : Clause → ℕ → ℕ → ℕ → Miss
at clause i j x = record { clause = clause; i = i; j = j; x = x }

or_holds : {A : Type 0} (P : A → Type 0) (front last : Option A) → IfSome front P → IfSome last P → IfSome (option_or front last) P
or_holds P (Some x) last of_front of_last = of_front
or_holds P None last of_front of_last = of_last

first_holds : {A : Type 0} (P : A → Type 0) (n : ℕ) (at : ℕ → Option A) → ((i : ℕ) → i < n → IfSome (at i) P) → IfSome (first n at) P
first_holds P zero at each = rw (first-zero at) tt
first_holds P (suc n) at each =
    rw (first-suc n at)
    (or_holds P (first n at) (at n) (first_holds P n at (λ i below. each i (omega arith))) (each n (omega arith)))

unless_holds-if : (P : Miss → Type 0) (test : Bool) (clause : Clause) (i j x : ℕ) → (test ≡ false → P (at clause i j x))
    → IfSome (unless_holds test clause i j x) P
unless_holds-if P true clause i j x here = tt
unless_holds-if P false clause i j x here = here refl

module _ {k : ℕ} (s : TwistedSubgroup) (table : Characters k) (P : Miss → Type 0) where
  -- P holds of each place at which the test of its clause fails
  pub record HoldsOfEach : Type 0 where
    pub count : (table.count == rank s) ≡ false → P (at Count 0 0 0)
    pub degree : (i : ℕ) → i < table.count → is_some (degree_of k (size s) (table.chi i (identity_of s.group))) ≡ false
        → P (at Degree i 0 (identity_of s.group))
    pub unitary : (i x : ℕ) → i < table.count → x < size s → agree (unitary_left s table i x) (unitary_right s table i x) ≡ false
        → P (at Unitary i 0 x)
    pub twist : (i : ℕ) → i < table.count → (twists_fit s table i && is_some (twist_of s table i)) ≡ false → P (at Twist i 0 0)
    pub central : (i y x : ℕ) → i < table.count → y < size s → x < size s
        → agree (central_left s table i y x) (central_right s table i y x) ≡ false → P (at Central i y x)
    pub product : (i j x : ℕ) → i < table.count → j < table.count → x < size s
        → agree (product_left s table i j x) (product_right s table i j x) ≡ false → P (at Product i j x)
    pub sum : (x : ℕ) → x < size s → agree (sum_left s table x) (sum_right s table x) ≡ false → P (at Sum 0 0 x)
    pub column : (x y : ℕ) → x < size s → y < size s → agree (column_left s table x y) (column_right s table x y) ≡ false
        → P (at Column 0 y x)
    pub vacuum : (element s (identity_of s.group) == s.at) ≡ true → has_vacuum s table ≡ false → P (at Vacuum 0 0 0)

  vacuum_holds : ((element s (identity_of s.group) == s.at) ≡ true → has_vacuum s table ≡ false → P (at Vacuum 0 0 0))
      → (own : Bool) → (element s (identity_of s.group) == s.at) ≡ own
      → IfSome (if own then unless_holds (has_vacuum s table) Vacuum 0 0 0 else None) P
  vacuum_holds each true own = unless_holds-if P (has_vacuum s table) Vacuum 0 0 0 (each own)
  vacuum_holds each false own = tt

  row_holds : HoldsOfEach → IfSome (row_miss s table) P
  row_holds each =
      or_holds P (count_miss s table) _ (unless_holds-if P _ Count 0 0 0 each.count)
      (or_holds P (degree_miss s table) _
      (first_holds P table.count (degree_at s table) (λ i row. unless_holds-if P _ Degree i 0 _ (each.degree i row)))
      (or_holds P (unitary_miss s table) (twist_miss s table)
      (first_holds P table.count (λ i. first (size s) (unitary_at s table i)) (λ i row. first_holds P (size s) (unitary_at s table i)
      (λ x place. unless_holds-if P _ Unitary i 0 x (each.unitary i x row place))))
      (first_holds P table.count (twist_at s table) (λ i row. unless_holds-if P _ Twist i 0 0 (each.twist i row)))))

  algebra_holds : HoldsOfEach → IfSome (algebra_miss s table) P
  algebra_holds each =
      or_holds P (central_miss s table) _
      (first_holds P table.count (λ i. first (size s) (λ y. first (size s) (central_at s table i y)))
      (λ i row. first_holds P (size s) (λ y. first (size s) (central_at s table i y)) (λ y other. first_holds P (size s) (central_at s table i y)
      (λ x place. unless_holds-if P _ Central i y x (each.central i y x row other place)))))
      (or_holds P (product_miss s table) _
      (first_holds P table.count (λ i. first table.count (λ j. first (size s) (product_at s table i j)))
      (λ i row. first_holds P table.count (λ j. first (size s) (product_at s table i j)) (λ j other. first_holds P (size s) (product_at s table i j)
      (λ x place. unless_holds-if P _ Product i j x (each.product i j x row other place)))))
      (or_holds P (sum_miss s table) _
      (first_holds P (size s) (sum_at s table) (λ x place. unless_holds-if P _ Sum 0 0 x (each.sum x place)))
      (or_holds P (column_miss s table) (vacuum_miss s table)
      (first_holds P (size s) (λ x. first (size s) (column_at s table x)) (λ x place. first_holds P (size s) (column_at s table x)
      (λ y other. unless_holds-if P _ Column 0 y x (each.column x y place other))))
      (vacuum_holds each.vacuum (element s (identity_of s.group) == s.at) refl))))

  pub holds_of_miss : HoldsOfEach → IfSome (table_miss s table) P
  unfolding table_miss
  holds_of_miss each = or_holds P (row_miss s table) (algebra_miss s table) (row_holds each) (algebra_holds each)
