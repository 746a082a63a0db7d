-- Central characters of a twisted group algebra (Dixon 1967), and lists of them modulo q.
use Rattle.std.specs.Prelude.{◌≡◌, ℕ, ◌<◌, ◌⊎◌, List, ◌∷◌, length, slice_index}
use Rattle.algebra.specs.Structures.{CommRing}
use Rattle.algebra.specs.Sums.{sum_below}
use Rattle.algebra.specs.Roots.{RootOfUnity}
use Rattle.prime_field.specs.declared.mod_ring.ModRing.{ModRing}
use Rattle.prime_field.specs.Field.{field_residue}
use Rattle.prime_field.specs.RingObject.{residue_field, residue_root}
use Rattle.prime_field.specs.ResidueLists.{AreBelow}
use Rattle.twisted.specs.Twist.{TwistedSubgroup}
use Rattle.twisted.specs.Regular.{regular_representatives, rank}
use Rattle.twisted.specs.Algebra.{class_sum, twisted_product}

module _ {A : Type 0} (R : CommRing A) {m : ℕ} (U : RootOfUnity R m) (s : TwistedSubgroup) where
  -- the class sum of the i-th regular class
  abbrev pub regular_sum : ℕ → ℕ → A
  regular_sum i = class_sum R U s (slice_index (regular_representatives s) i)

  -- the value at the central element z of the linear map with the value u k at the k-th class sum
  abbrev pub linear_value : (ℕ → A) → (ℕ → A) → A
  linear_value u z = sum_below R (rank s) (λ k. R.mul (z (slice_index (regular_representatives s) k)) (u k))

  -- u is a central character by its values at the class sums: it sends that of the identity, which is the first, to one, and
  -- respects the product of each two of them
  pub record IsCentralCharacter (u : ℕ → A) : Type 0 where
    pub one : u 0 ≡ R.one
    pub products : (i j : ℕ) → i < rank s → j < rank s → linear_value u (twisted_product R U s (regular_sum i) (regular_sum j)) ≡ R.mul (u i) (u j)

-- the list is that of the values of a central character modulo q, one for each regular class
pub record IsCharacterList (ring : ModRing) (s : TwistedSubgroup) (values : List ℕ) : Type 0 where
  pub count : length values ≡ rank s
  pub below : AreBelow ring.q values
  pub character : IsCentralCharacter (residue_field ring) (residue_root ring) s (λ i. field_residue ring.q ring.listed (slice_index values i))

-- the first list comes before the second by the first number at which they differ
abbrev pub IsBefore : List ℕ → List ℕ → Type 0
IsBefore (x ∷ xs) (y ∷ ys) = (x < y) ⊎ ((x ≡ y) × IsBefore xs ys)
IsBefore xs ys = ⊥
