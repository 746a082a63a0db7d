-- Parts of a type whose elements are numbered by places, and subgroups among them.
use Rattle.std.specs.Prelude.{◌≡◌, Bool, true}
use Rattle.algebra.specs.Structures.{CommRing}
use Rattle.algebra.specs.Sums.{pick}
use Rattle.algebra.specs.Totals.{Finite, equals, total}
use Rattle.algebra.specs.Groups.{Group}

-- the elements that pass a test, each at one place (textbook)
pub record IsPart {G K : Type 0} (inside : G → Bool) (element : K → G) : Type 0 where
  pub injective : (p r : K) → element p ≡ element r → p ≡ r
  pub within : (p : K) → inside (element p) ≡ true
  pub found : (x : G) → inside x ≡ true → (p : K) × (element p ≡ x)

-- a part of a group whose places are a group with the same products (textbook)
pub record IsSubgroup {G K : Type 0} (P : Group G) (inside : G → Bool) (Q : Group K) (element : K → G) : Type 0 where
  pub part : IsPart inside element
  pub respects : (p r : K) → element (Q.op p r) ≡ P.op (element p) (element r)

-- a function of places as one of elements: the value at the place of an element, and nought where it has none
unfoldable pub extended : {A G K : Type 0} → CommRing A → Finite G → Finite K → (K → G) → (K → A) → G → A
extended R F E element f x = total R E (λ p. pick R (equals F (element p) x) (f p))
