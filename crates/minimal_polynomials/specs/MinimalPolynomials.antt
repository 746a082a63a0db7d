-- Minimal polynomials of the elements of a twisted group algebra modulo q (textbook). A polynomial is the list of its coefficients,
-- constant term first.
use Rattle.std.specs.Prelude.{◌≡◌, ℕ, ◌-◌, ◌%◌, ◌<◌, List, length, slice_index}
use Rattle.algebra.specs.Sums.{sum_below}
use Rattle.algebra.specs.Below.{Below}
use Rattle.central_ext.specs.PowersOfUnits.{algebra_power}
use Rattle.prime_field.specs.declared.mod_ring.ModRing.{ModRing}
use Rattle.prime_field.specs.Field.{field_residue}
use Rattle.prime_field.specs.RingObject.{residue_field, residue_root}
use Rattle.prime_field.specs.ResidueLists.{AreBelow}
use Rattle.twisted.specs.Twist.{TwistedSubgroup, size}

module _ (ring : ModRing) (s : TwistedSubgroup) where
  -- f0 u_e + f1 z + f2 z^2 + .. at the place x, for the polynomial f with the coefficients f0, f1, f2, ..
  abbrev pub polynomial_at : List ℕ → (ℕ → Below ring.q) → ℕ → Below ring.q
  polynomial_at f z x =
      sum_below (residue_field ring) (length f) (λ k. (residue_field ring).mul (field_residue ring.q ring.listed (slice_index f k)) (algebra_power (residue_field ring) (residue_root ring) s z k x))

  -- the polynomial f is nought at z
  abbrev pub IsNoughtAt : List ℕ → (ℕ → Below ring.q) → Type 0
  IsNoughtAt f z = (x : ℕ) → x < size s → polynomial_at f z x ≡ (residue_field ring).nought

  -- f is the minimal polynomial of z: it is monic and nought at z, and each shorter one that is nought at z has only the
  -- coefficient 0 modulo q
  pub record IsMinimal (z : ℕ → Below ring.q) (f : List ℕ) : Type 0 where
    pub below : AreBelow ring.q f
    pub some : 0 < length f
    pub monic : slice_index f (length f - 1) ≡ 1
    pub nought : IsNoughtAt f z
    pub least : (g : List ℕ) → length g < length f → IsNoughtAt g z → (k : ℕ) → k < length g → slice_index g k % ring.q ≡ 0
