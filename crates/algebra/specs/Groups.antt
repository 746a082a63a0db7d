-- Groups whose elements are a type (textbook).
use Rattle.std.specs.Prelude.{◌≡◌}

-- a group
pub record Group (G : Type 0) : Type 0 where
  pub op : G → G → G
  pub inv : G → G
  pub one : G
  pub op_assoc : (x y z : G) → op (op x y) z ≡ op x (op y z)
  pub one_op : (x : G) → op one x ≡ x
  pub op_one : (x : G) → op x one ≡ x
  pub inv_op : (x : G) → op (inv x) x ≡ one
  pub op_inv : (x : G) → op x (inv x) ≡ one

-- x^-1 g x
unfoldable pub conj : {G : Type 0} → Group G → G → G → G
conj P g x = P.op (P.inv x) (P.op g x)
