-- A subgroup of a finite group with a normalised 2-cocycle. Its elements are listed ascending, and a place is the number of an
-- element in that list: the group, the phases and all that is defined from them speak of places.
use Rattle.std.specs.Prelude.{◌≡◌, ℕ, ◌+◌, ◌*◌, ◌<◌, ◌≤◌, ◌==◌, List, length, slice_index, Option, Some, None, if◌then◌else◌}
use Rattle.scan.specs.First.{first}
use Rattle.algebra.specs.Congruences.{Same}
use Rattle.group_table.specs.Group.{Table, product, identity_of, IsGroup, IsSmall}

-- an element a of the whole group, the elements of a subgroup by place, its multiplication table over the places, a modulus, and
-- one exponent modulo it for each pair of places, row after row
pub record TwistedSubgroup : Type 0 where
  pub at : ℕ
  pub elements : List ℕ
  pub group : Table
  pub modulus : ℕ
  pub phases : List ℕ

-- how many places there are
abbrev pub size : TwistedSubgroup → ℕ
size s = s.group.order

-- the element at place p
abbrev pub element : TwistedSubgroup → ℕ → ℕ
element s p = slice_index s.elements p

-- the place of the element x, if it is one of the subgroup
abbrev pub place_of : TwistedSubgroup → ℕ → Option ℕ
place_of s x = first (size s) (λ p. if element s p == x then Some p else None)

-- th(p,r): the exponent at the places p and r, by which u_p u_r = th(p,r) u_pr (textbook)
abbrev pub phase : TwistedSubgroup → ℕ → ℕ → ℕ
phase s p r = slice_index s.phases (p * size s + r)

-- the moduli that the program works with
pub record IsModulus (modulus : ℕ) : Type 0 where
  pub from_one : 1 ≤ modulus
  pub to_most : modulus ≤ 64

-- the phases are a normalised 2-cocycle over the places (textbook)
pub record HasCocycle (s : TwistedSubgroup) : Type 0 where
  pub law : (p q r : ℕ) → p < size s → q < size s → r < size s
      → Same s.modulus (phase s p q + phase s (product s.group p q) r) (phase s p (product s.group q r) + phase s q r)
  pub at_identity_left : (p : ℕ) → p < size s → phase s (identity_of s.group) p ≡ 0
  pub at_identity_right : (p : ℕ) → p < size s → phase s p (identity_of s.group) ≡ 0

-- elements in ascending order, a group on their places, a among them, and a normalised 2-cocycle of exponents below the modulus
pub record IsTwist (s : TwistedSubgroup) : Type 0 where
  pub group : IsGroup s.group
  pub small : IsSmall s.group.order
  pub count : length s.elements ≡ s.group.order
  pub ascending : (p r : ℕ) → p < r → r < size s → element s p < element s r
  pub holds_at : (p : ℕ) × (p < size s) × (element s p ≡ s.at)
  pub modulus : IsModulus s.modulus
  pub square : length s.phases ≡ s.group.order * s.group.order
  pub below : (i : ℕ) → i < length s.phases → slice_index s.phases i < s.modulus
  pub cocycle : HasCocycle s
