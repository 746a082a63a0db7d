-- Powers of the central elements of the twisted group algebra of a twist.
use Rattle.std.specs.Prelude.{◌≡◌, ℕ, ◌*◌, ◌%◌, ◌<◌}
use Rattle.algebra.specs.Structures.{CommRing}
use Rattle.algebra.specs.Roots.{RootOfUnity}
use Rattle.orders.specs.Order.{exponent_of}
use Rattle.group_table.specs.Group.{product, identity_of}
use Rattle.twisted.specs.Twist.{TwistedSubgroup, size, IsTwist}
use Rattle.twisted.specs.Algebra.{IsCentral}
use Rattle.central_ext.specs.PowersOfUnits.{algebra_power}
use Rattle.prime_field.specs.declared.mod_ring.ModRing.{ModRing}
use Rattle.prime_field.specs.RingObject.{residue_field, residue_root}

-- N E: the modulus of the twist times the exponent of its group
abbrev pub unit_period : TwistedSubgroup → ℕ
unit_period s = s.modulus * exponent_of s.group.order (product s.group) (identity_of s.group)

-- the field serves the twist: q is over its size, and its modulus times the exponent of its group divides the conductor
pub record Serves (ring : ModRing) (s : TwistedSubgroup) : Type 0 where
  pub twist : IsTwist s
  pub over : size s < ring.q
  pub period : ring.conductor % unit_period s ≡ 0

-- over a ring with a root of unity of order m: z^q = z for every z that commutes with every u_y, in the algebra of each twist
-- that has fewer than q places and whose N E divides m
abbrev pub CentralPowers : {A : Type 0} (R : CommRing A) {m : ℕ} → RootOfUnity R m → ℕ → Type 0
CentralPowers {A} R {m} U q =
    (s : TwistedSubgroup) → IsTwist s → size s < q → m % unit_period s ≡ 0
    → (z : ℕ → A) → IsCentral R U s z → (x : ℕ) → x < size s → algebra_power R U s z q x ≡ z x

-- so it is over the residues modulo q, with the least root modulo q of the cyclotomic polynomial Phi_K, of order K
abbrev pub CentralPowersModulo : ModRing → Type 0
CentralPowersModulo r = CentralPowers (residue_field r) (residue_root r) r.q
