-- Good tables of projective characters: by them the (d_i/m) E_i are orthogonal central idempotents of the twisted group algebra that add up
-- to one (Coste, Gannon, Ruelle 2000, and textbook; that Twist, Column and Vacuum belong to it is this project's choice).
use Rattle.std.specs.Prelude.{◌≡◌, ℕ, ◌*◌, ◌<◌, ◌≤◌}
use Rattle.group_table.specs.Group.{identity_of}
use Rattle.cyclotomic.specs.Cyclotomic.{cyclotomic}
use Rattle.cyclotomic.specs.Ring.{value_one}
use Rattle.cyclotomic.specs.CyclotomicRing.{CyclotomicValue}
use Rattle.twisted.specs.Twist.{TwistedSubgroup, size, element}
use Rattle.twisted.specs.Regular.{rank}
use Rattle.table_check.specs.Characters.{Characters}
use Rattle.table_check.specs.Formed.{whole}
use Rattle.table_check.specs.Sides.{unitary_left, unitary_right, twist_left, twist_right, central_left, central_right, product_left, product_right, sum_left, sum_right, column_left, column_right}

-- a value is a whole number from 1 on, whose square is at most m
pub record IsDegree (k m : ℕ) (value : CyclotomicValue k) : Type 0 where
  pub degree : ℕ
  pub positive : 1 ≤ degree
  pub square : degree * degree ≤ m
  pub same : value ≡ whole k degree

-- the chi_i(a) of row i is its degree times a root of unity
pub record HasTwist {k : ℕ} (s : TwistedSubgroup) (table : Characters k) (i : ℕ) : Type 0 where
  pub twist : ℕ
  pub below : twist < k
  pub same : (twist_left s table i).value ≡ (twist_right s table i twist).value

-- every value of row i is 1
abbrev pub IsVacuum : {k : ℕ} → TwistedSubgroup → Characters k → ℕ → Type 0
IsVacuum {k} s table i = (x : ℕ) → x < size s → table.chi i x ≡ value_one (cyclotomic k)

-- the rows are as many as the rank, and the two sides of every clause agree everywhere; where a is the identity there is a vacuum
pub record IsGood {k : ℕ} (s : TwistedSubgroup) (table : Characters k) : Type 0 where
  pub count : table.count ≡ rank s
  pub degree : (i : ℕ) → i < table.count → IsDegree k (size s) (table.chi i (identity_of s.group))
  pub unitary : (i x : ℕ) → i < table.count → x < size s → (unitary_left s table i x).value ≡ (unitary_right s table i x).value
  pub twist : (i : ℕ) → i < table.count → HasTwist s table i
  pub central : (i y x : ℕ) → i < table.count → y < size s → x < size s → (central_left s table i y x).value ≡ (central_right s table i y x).value
  pub product : (i j x : ℕ) → i < table.count → j < table.count → x < size s → (product_left s table i j x).value ≡ (product_right s table i j x).value
  pub sum : (x : ℕ) → x < size s → (sum_left s table x).value ≡ (sum_right s table x).value
  pub column : (x y : ℕ) → x < size s → y < size s → (column_left s table x y).value ≡ (column_right s table x y).value
  pub vacuum : element s (identity_of s.group) ≡ s.at → (i : ℕ) × (i < table.count) × IsVacuum s table i
