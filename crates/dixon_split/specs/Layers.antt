-- Powers of an element of the basis on an element, and the parts that they add up to.
use Rattle.std.specs.Prelude.{◌≡◌, ℕ, zero, suc, ◌+◌, ◌*◌, ◌<◌, List, length, slice_index}
use Rattle.algebra.specs.Structures.{CommRing}
use Rattle.algebra.specs.Below.{Below}
use Rattle.algebra.specs.Sums.{power}
use Rattle.prime_field.specs.Field.{field, field_residue}
use Rattle.prime_field.specs.ResidueLists.{AreBelow}
use Rattle.dixon_split.specs.Elements.{Element}
use Rattle.dixon_split.specs.Structures.{residues, HasStructure}
use Rattle.dixon_split.specs.declared.structure.Structure.{Structure}

-- the list has, one after another, the element with the numbers e times the first n powers of the t-th element of the basis
pub record ArePowers (a : Structure) (t : ℕ) (e : List ℕ) (n : ℕ) (powers : List ℕ) : Type 0 where
  pub count : length powers ≡ n * a.rank
  pub below : AreBelow a.q powers
  pub each : (Z : CommRing (Element a.q a.rank)) (H : HasStructure a Z) (i : ℕ) → i < n → (k : Below a.rank)
      → field_residue a.q a.listed (slice_index powers (i * a.rank + k.value)) ≡ Z.mul (power Z (H.basis t) i) (residues a e) k

-- by Horner: the sum of v^(n-1-j) times the k-th number of the j-th power, over j below n
unfoldable pub horner_value : (a : Structure) → List ℕ → ℕ → ℕ → ℕ → Below a.q
horner_value a powers v k zero = (field a.q a.listed).nought
horner_value a powers v k (suc n) =
    let F = field a.q a.listed in
    F.add (F.mul (field_residue a.q a.listed v) (horner_value a powers v k n)) (field_residue a.q a.listed (slice_index powers (n * a.rank + k)))

-- the k-th number of the part at v
abbrev pub part_value : Structure → List ℕ → ℕ → ℕ → ℕ
part_value a powers v k =
    let F = field a.q a.listed in
    (F.add (field_residue a.q a.listed (slice_index powers k)) (F.neg (horner_value a powers v k a.q))).value
