-- That no side of a clause overflows anywhere.
use Rattle.std.specs.Prelude.{◌≡◌, ℕ, ◌<◌, ◌&&◌, Bool, true, None}
use Rattle.twisted.specs.Twist.{TwistedSubgroup, size}
use Rattle.table_check.specs.Characters.{Characters}
use Rattle.table_check.specs.Check.{twists_fit, table_miss}
use Rattle.table_check.specs.Formed.{Formed}
use Rattle.table_check.specs.Good.{IsGood}
use Rattle.table_check.specs.Sides.{unitary_left, unitary_right, central_left, central_right, product_left, product_right, sum_left, sum_right, column_left, column_right}

-- both are formed by steps that fit
abbrev pub both_fit : {k : ℕ} → Formed k → Formed k → Bool
both_fit left right = left.fits && right.fits

-- both sides of every equation fit at every place, and every root multiple of a degree
pub record SidesFit {k : ℕ} (s : TwistedSubgroup) (table : Characters k) : Type 0 where
  pub unitary : (i x : ℕ) → i < table.count → x < size s → both_fit (unitary_left s table i x) (unitary_right s table i x) ≡ true
  pub twist : (i : ℕ) → i < table.count → twists_fit s table i ≡ true
  pub central : (i y x : ℕ) → i < table.count → y < size s → x < size s → both_fit (central_left s table i y x) (central_right s table i y x) ≡ true
  pub product : (i j x : ℕ) → i < table.count → j < table.count → x < size s → both_fit (product_left s table i j x) (product_right s table i j x) ≡ true
  pub sum : (x : ℕ) → x < size s → both_fit (sum_left s table x) (sum_right s table x) ≡ true
  pub column : (x y : ℕ) → x < size s → y < size s → both_fit (column_left s table x y) (column_right s table x y) ≡ true

-- a good table whose sides fit misses nothing
abbrev pub GoodTablesMissNothing : Type 0
GoodTablesMissNothing = (k : ℕ) (s : TwistedSubgroup) (table : Characters k) → IsGood s table → SidesFit s table → table_miss s table ≡ None
