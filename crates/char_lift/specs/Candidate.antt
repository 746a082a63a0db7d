-- The candidate for a projective character that a central character modulo q gives: its degree, its multiplicities and its values (Dixon
-- 1967, with the phases of a 2-cocycle). Its character ratios c are listed by place.
use Rattle.std.specs.Prelude.{ℕ, ◌+◌, ◌-◌, ◌*◌, ◌%◌, ◌==◌, ◌&&◌, nat_le, Bool, List, Option, Some, None, slice_index, if◌then◌else◌}
use Rattle.scan.specs.First.{first}
use Rattle.algebra.specs.Sums.{sum_below, multiple}
use Rattle.group_table.specs.Group.{inverse}
use Rattle.cyclotomic.specs.CyclotomicRing.{CyclotomicValue, cyclotomic_ring, root}
use Rattle.twisted.specs.Twist.{TwistedSubgroup, size, phase}
use Rattle.central_ext.specs.Extension.{place_power, power_phase}
use Rattle.prime_field.specs.Laws.Moduli.{power_modulo}
use Rattle.char_lift.specs.Sums.{sum_of}
use Rattle.char_lift.specs.Ratios.{inverse_residue, root_residue, inverse_root}

-- d is a degree for m places and the sum t: from 1, with d d at most m and d d t = m modulo q
abbrev pub is_degree : ℕ → ℕ → ℕ → ℕ → Bool
is_degree q m t d = (nat_le 1 d && nat_le (d * d) m) && ((d * d * t) % q == m % q)

-- the least degree, if there is one
unfoldable pub least_degree : ℕ → ℕ → ℕ → Option ℕ
least_degree q m t = first (m + 1) (λ d. if is_degree q m t d then Some d else None)

-- the inverse discrete Fourier transform modulo q of K values, at i, with z for the root of unity: 1/K times the sum over j of the values,
-- each times z^(-ij). That power is the one with exponent K - ij, where ij is taken modulo K
unfoldable pub inverse_transform : ℕ → ℕ → ℕ → (ℕ → ℕ) → ℕ → ℕ
inverse_transform q k z values i = (inverse_residue q k * sum_of k (λ j. values j * power_modulo q z (k - (i * j) % k))) % q

-- the value in the cyclotomic ring with these multiplicities: the sum over i of as many roots x^i as the multiplicity of i says
unfoldable pub with_multiplicities : (k : ℕ) → (ℕ → ℕ) → CyclotomicValue k
with_multiplicities k counts = sum_below (cyclotomic_ring k) k (λ i. multiple (cyclotomic_ring k) (counts i) (root k i))

module _ (s : TwistedSubgroup) (q k z : ℕ) (c : List ℕ) where
  -- c(x) c(x^-1) / e(th(x,x^-1))
  abbrev pub degree_term : ℕ → ℕ
  degree_term x = slice_index c x * slice_index c (inverse s.group x) * inverse_root s q k z (phase s x (inverse s.group x))

  -- the sum of those terms over all places x, modulo q
  abbrev pub degree_sum : ℕ
  degree_sum = sum_of (size s) degree_term % q

  -- the degree of the candidate, if there is one
  abbrev pub degree_of : Option ℕ
  degree_of = least_degree q (size s) degree_sum

  -- e(ph(x,j)) d c(x^j), the value of the candidate of degree d at u_x^j, which is e(ph(x,j)) times u of x^j
  abbrev pub power_value : ℕ → ℕ → ℕ → ℕ
  power_value d x j = root_residue s q k z (power_phase s x j) * d * slice_index c (place_power s x j)

  -- how often x^i is an eigenvalue of u_x: the inverse transform, at i, of the values at u_x^j
  abbrev pub multiplicity : ℕ → ℕ → ℕ → ℕ
  multiplicity d x = inverse_transform q k z (power_value d x)

  -- how many eigenvalues of u_x there are
  abbrev pub multiplicity_sum : ℕ → ℕ → ℕ
  multiplicity_sum d x = sum_of k (multiplicity d x)

  -- the lifted value at x
  abbrev pub lifted_value : ℕ → ℕ → CyclotomicValue k
  lifted_value d x = with_multiplicities k (multiplicity d x)
