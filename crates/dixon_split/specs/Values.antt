-- The numbers by which the basis of an algebra multiplies elements, and the algebra of the class sums of a twist.
use Rattle.std.specs.Prelude.{◌≡◌, ℕ, ◌/◌, ◌%◌, ◌<◌, List, [], length, slice_index, slice_index_or}
use Rattle.algebra.specs.Structures.{CommRing}
use Rattle.prime_field.specs.declared.mod_ring.ModRing.{ModRing}
use Rattle.prime_field.specs.ResidueLists.{AreBelow}
use Rattle.twisted.specs.Twist.{TwistedSubgroup}
use Rattle.twisted.specs.Regular.{rank}
use Rattle.splitting_theory.specs.Splitting.{number, Acts}
use Rattle.dixon_split.specs.ClassSums.{constant_value}
use Rattle.dixon_split.specs.Elements.{Element}
use Rattle.dixon_split.specs.Structures.{constant, residues, HasStructure}
use Rattle.dixon_split.specs.declared.structure.Structure.{Structure}

-- the first n of the numbers by which the basis multiplies the elements, those of each element one after another
pub record AreValues (a : Structure) (elements : List (List ℕ)) (n : ℕ) (values : List ℕ) : Type 0 where
  pub count : length values ≡ n
  pub below : AreBelow a.q values
  pub acts : (Z : CommRing (Element a.q a.rank)) (H : HasStructure a Z) (m : ℕ) → m < n
      → Acts Z a.q (H.basis (m % a.rank)) (residues a (slice_index_or elements (m / a.rank) []))
      → Z.mul (H.basis (m % a.rank)) (residues a (slice_index_or elements (m / a.rank) []))
      ≡ Z.mul (number Z (slice_index values m)) (residues a (slice_index_or elements (m / a.rank) []))

-- the algebra is the centre of the twisted group algebra: it multiplies as the class sums do
pub record IsCentreOf (ring : ModRing) (s : TwistedSubgroup) (a : Structure) : Type 0 where
  pub prime : a.q ≡ ring.q
  pub dimension : a.rank ≡ rank s
  pub constants : (t j k : ℕ) → t < rank s → j < rank s → k < rank s → constant a t j k ≡ constant_value ring s t j k
