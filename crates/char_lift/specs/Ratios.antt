-- The character ratios that a central character modulo a prime q gives at every place of a twist (Dixon 1967, with the phases of a
-- 2-cocycle). A character ratio is the value of a character over its degree.
--
-- The field is that of the residues modulo q, with a root z of the cyclotomic polynomial Phi_K, where K is a multiple of the modulus N of
-- the twist. A central character is given by its values at the class sums of the regular classes, in the order of their representatives.
-- Every index is a place.
use Rattle.std.specs.Prelude.{ℕ, ◌-◌, ◌*◌, ◌/◌, ◌%◌, ◌==◌, List, length, slice_index, Some, None, unwrap_or, if◌then◌else◌}
use Rattle.scan.specs.First.{first}
use Rattle.classes.specs.Conjugacy.{representative_of, transporter_of, members_of}
use Rattle.twisted.specs.Twist.{TwistedSubgroup, size}
use Rattle.twisted.specs.Regular.{kappa, is_regular, regular_representatives, rank}
use Rattle.prime_field.specs.Inverses.{inverse_modulo}
use Rattle.prime_field.specs.Laws.Moduli.{power_modulo}
use Rattle.group_table.specs.Numbers.{tabulated}

-- 1/a modulo q. What isn't 0 modulo q has an inverse, so the 0 of none is not met below
abbrev pub inverse_residue : ℕ → ℕ → ℕ
inverse_residue q a = unwrap_or (inverse_modulo q a) 0

-- how many members the class of y has
abbrev pub class_size : TwistedSubgroup → ℕ → ℕ
class_size s y = length (members_of s.group (representative_of s.group y))

-- the number of the class of a regular y among the regular classes, from 0. What isn't regular has none, and 0 stands for it
unfoldable pub regular_number : TwistedSubgroup → ℕ → ℕ
regular_number s y =
    unwrap_or (first (rank s) (λ t. if slice_index (regular_representatives s) t == representative_of s.group y then Some t else None)) 0

-- ka(b,x) at y = b x b^-1, where x is the representative of the class of y and b the least that carries x to y
abbrev pub carrying_phase : TwistedSubgroup → ℕ → ℕ
carrying_phase s y = kappa s (transporter_of s.group y) (representative_of s.group y)

module _ (s : TwistedSubgroup) (q k z : ℕ) where
  -- e(v) = z^(v K / N) modulo q, the residue of the root of unity with exponent v modulo N
  abbrev pub root_residue : ℕ → ℕ
  root_residue v = power_modulo q z (v * (k / s.modulus))

  -- 1/e(v) = e(N - v), for a v up to N
  abbrev pub inverse_root : ℕ → ℕ
  inverse_root v = root_residue (s.modulus - v)

  -- 1/(l e(ka(b,x))) at y = b x b^-1, where the class of y is regular and has l members; 0 at what isn't regular
  unfoldable pub class_factor : ℕ → ℕ
  class_factor y = if is_regular s y then (inverse_residue q (class_size s y) * inverse_root (carrying_phase s y)) % q else 0

  -- c(y): at the representative x of a regular class it is w/l, where w is the value at the class sum, at y = b x b^-1 it is
  -- c(x)/e(ka(b,x)), and at what isn't regular it is 0
  abbrev pub character_ratio : (ℕ → ℕ) → ℕ → ℕ
  character_ratio w y = (w (regular_number s y) * class_factor y) % q

  -- c at each place
  abbrev pub character_ratios : (ℕ → ℕ) → List ℕ
  character_ratios w = tabulated (size s) (character_ratio w)
