-- Powers in the twisted group algebra of a twist (textbook).
use Rattle.std.specs.Prelude.{ℕ, zero, suc}
use Rattle.algebra.specs.Structures.{CommRing}
use Rattle.algebra.specs.Roots.{RootOfUnity}
use Rattle.group_table.specs.Group.{identity_of}
use Rattle.twisted.specs.Twist.{TwistedSubgroup}
use Rattle.twisted.specs.Algebra.{twisted_product, unit_vector}

-- z^j: the product of j factors z, and u_e for j = 0
unfoldable pub algebra_power : {A : Type 0} (R : CommRing A) {m : ℕ} (U : RootOfUnity R m) (s : TwistedSubgroup) → (ℕ → A) → ℕ → ℕ → A
algebra_power R U s z zero = unit_vector R U s (identity_of s.group)
algebra_power R U s z (suc j) = twisted_product R U s (algebra_power R U s z j) z
