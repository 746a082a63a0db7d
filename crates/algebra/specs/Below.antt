-- The numbers below n as a type, and groups on them given by laws with premises.
use Rattle.std.specs.Prelude.{◌≡◌, ℕ, ◌<◌}
use Rattle.std.proofs.Math.Bridge.{le_prop}
use mathlib.Core.HLevel.{is_prop→PathP}

-- a number below n
pub record Below (n : ℕ) : Type 0 where
  pub value : ℕ
  pub below : value < n

-- numbers below n with one value are one
pub below_equal : {n : ℕ} → (x y : Below n) → x.value ≡ y.value → x ≡ y
below_equal {n} x y e = λ i. record { value = e i; below = is_prop→PathP (λ j. e j < n) (λ j. le_prop) x.below y.below i }

-- op, inv and one make the numbers below n a group (textbook)
pub record IsGroupBelow (n : ℕ) (op : ℕ → ℕ → ℕ) (inv : ℕ → ℕ) (one : ℕ) : Type 0 where
  pub one_below : one < n
  pub op_below : (x y : ℕ) → x < n → y < n → op x y < n
  pub inv_below : (x : ℕ) → x < n → inv x < n
  pub op_assoc : (x y z : ℕ) → x < n → y < n → z < n → op (op x y) z ≡ op x (op y z)
  pub one_op : (x : ℕ) → x < n → op one x ≡ x
  pub op_one : (x : ℕ) → x < n → op x one ≡ x
  pub inv_op : (x : ℕ) → x < n → op (inv x) x ≡ one
  pub op_inv : (x : ℕ) → x < n → op x (inv x) ≡ one
