-- The central extension of the group of the places of a twist by its roots of unity (Schur 1904). Its elements are the pairs of a
-- place and the exponent of a root.
use Rattle.std.specs.Prelude.{ℕ, zero, suc, ◌+◌, ◌-◌, ◌%◌, ◌<◌}
use Rattle.orders.specs.Group.{power}
use Rattle.group_table.specs.Group.{product, inverse, identity_of}
use Rattle.twisted.specs.Twist.{TwistedSubgroup, size, phase}
use Rattle.central_ext.specs.declared.pair.Pair.{Pair}

-- a pair of the extension: a place, and an exponent below the modulus
pub record IsPair (s : TwistedSubgroup) (a : Pair) : Type 0 where
  pub place_below : a.place < size s
  pub root_below : a.root < s.modulus

-- (p,i)(r,j) = (pr, i + j + th(p,r))
abbrev pub ext_product : TwistedSubgroup → Pair → Pair → Pair
ext_product s a b = record { place = product s.group a.place b.place; root = (a.root + b.root + phase s a.place b.place) % s.modulus }

-- (e,0)
abbrev pub ext_identity : TwistedSubgroup → Pair
ext_identity s = record { place = identity_of s.group; root = 0 }

-- (p,i)^-1 = (p^-1, -(i + th(p,p^-1)))
abbrev pub ext_inverse : TwistedSubgroup → Pair → Pair
ext_inverse s a =
    record {
      place = inverse s.group a.place;
      root = (s.modulus - (a.root + phase s a.place (inverse s.group a.place)) % s.modulus) % s.modulus;
    }

-- a^j: the product of j factors a, and the identity for j = 0 (textbook)
unfoldable pub ext_power : TwistedSubgroup → Pair → ℕ → Pair
ext_power s a zero = ext_identity s
ext_power s a (suc j) = ext_product s (ext_power s a j) a

-- p^j, a place
abbrev pub place_power : TwistedSubgroup → ℕ → ℕ → ℕ
place_power s p j = power (product s.group) (identity_of s.group) p j

-- the exponent v with u_p^j = e(v) u_(p^j): 0 for j = 0, and th(p^j, p) more for one more factor u_p
unfoldable pub power_phase : TwistedSubgroup → ℕ → ℕ → ℕ
power_phase s p zero = 0
power_phase s p (suc j) = (power_phase s p j + phase s (place_power s p j) p) % s.modulus
