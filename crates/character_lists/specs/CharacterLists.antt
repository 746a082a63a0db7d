-- All central characters of a twist modulo q, as lists of their values in ascending order (Dixon 1967).
use Rattle.std.specs.Prelude.{ℕ, zero, suc, ◌==◌, ◌&&◌, Bool, List, [], ◌∷◌, ◌++◌, map, filter, slice_index}
use Rattle.scan.specs.First.{all_below}
use Rattle.algebra.specs.Below.{Below}
use Rattle.prime_field.specs.declared.mod_ring.ModRing.{ModRing}
use Rattle.prime_field.specs.Field.{field_residue}
use Rattle.prime_field.specs.RingObject.{residue_field, residue_root}
use Rattle.twisted.specs.Twist.{TwistedSubgroup}
use Rattle.twisted.specs.Regular.{rank}
use Rattle.twisted.specs.Algebra.{twisted_product}
use Rattle.centre_algebra.specs.CentralCharacters.{regular_sum, linear_value}

-- each number below b, before each of the lists
unfoldable pub with_heads_below : ℕ → List (List ℕ) → List (List ℕ)
with_heads_below zero lists = []
with_heads_below (suc b) lists = with_heads_below b lists ++ map (λ xs. b ∷ xs) lists

-- all lists of n numbers below q, in ascending order
unfoldable pub number_lists : ℕ → ℕ → List (List ℕ)
number_lists q zero = [] ∷ []
number_lists q (suc n) = with_heads_below q (number_lists q n)

module _ (ring : ModRing) (s : TwistedSubgroup) where
  -- the residue of the i-th of the values
  abbrev pub residue_at : List ℕ → ℕ → Below ring.q
  residue_at values i = field_residue ring.q ring.listed (slice_index values i)

  -- the values respect the product of the class sums of the i-th and the j-th regular class
  abbrev pub respects : List ℕ → ℕ → ℕ → Bool
  respects values i j =
      let F = residue_field ring in
      let U = residue_root ring in
      (linear_value F U s (residue_at values) (twisted_product F U s (regular_sum F U s i) (regular_sum F U s j))).value
      == (F.mul (residue_at values i) (residue_at values j)).value

  -- they are the values of a central character: 1 at the class sum of the identity, and every product of two class sums is respected
  unfoldable pub is_character : List ℕ → Bool
  is_character values =
      ((residue_at values 0).value == (residue_field ring).one.value) && all_below (rank s) (λ i. all_below (rank s) (respects values i))

  -- all central characters
  unfoldable pub central_characters : List (List ℕ)
  central_characters = filter is_character (number_lists ring.q (rank s))
