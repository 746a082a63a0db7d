-- Commutative groups and rings, as records of operations and their laws (textbook).
use Rattle.std.specs.Prelude.{◌≡◌}

-- a commutative group, written as a product
pub record CommGroup (A : Type 0) : Type 0 where
  pub op : A → A → A
  pub unit : A
  pub inv : A → A
  pub op_assoc : (x y z : A) → op (op x y) z ≡ op x (op y z)
  pub op_comm : (x y : A) → op x y ≡ op y x
  pub op_unit : (x : A) → op x unit ≡ x
  pub op_inv : (x : A) → op x (inv x) ≡ unit

-- a commutative ring with one
pub record CommRing (A : Type 0) : Type 0 where
  pub add : A → A → A
  pub nought : A
  pub neg : A → A
  pub mul : A → A → A
  pub one : A
  pub add_assoc : (x y z : A) → add (add x y) z ≡ add x (add y z)
  pub add_comm : (x y : A) → add x y ≡ add y x
  pub add_nought : (x : A) → add x nought ≡ x
  pub add_neg : (x : A) → add x (neg x) ≡ nought
  pub mul_assoc : (x y z : A) → mul (mul x y) z ≡ mul x (mul y z)
  pub mul_comm : (x y : A) → mul x y ≡ mul y x
  pub mul_one : (x : A) → mul x one ≡ x
  pub mul_add : (x y z : A) → mul x (add y z) ≡ add (mul x y) (mul x z)
