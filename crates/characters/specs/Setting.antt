-- What full characters are made of: a finite group with a 3-cocycle, and a ring that holds its values.
use Rattle.std.specs.Prelude.{◌≡◌, ℕ, Bool}
use Rattle.algebra.specs.Structures.{CommRing}
use Rattle.algebra.specs.Totals.{Finite, equals}
use Rattle.algebra.specs.Groups.{Group, conj}
use Rattle.algebra.specs.Involutions.{Involution}
use Rattle.algebra.specs.Roots.{Roots}
use Rattle.phases.specs.ThreeCocycle.{ThreeCocycle}

-- a finite group with a normalised 3-cocycle, and a commutative ring with roots of unity and a conjugation by which each root becomes
-- its inverse (Dijkgraaf, Pasquier, Roche 1990)
pub record Setting (A G : Type 0) : Type 0 where
  pub group : Group G
  pub finite : Finite G
  pub ring : CommRing A
  pub involution : Involution ring
  pub modulus : ℕ
  pub roots : Roots ring modulus
  pub root_bar : (v : ℕ) → ring.mul (roots.root v) (involution.bar (roots.root v)) ≡ ring.one
  pub cochain : G → G → G → ℕ
  pub cocycle : ThreeCocycle group modulus cochain

-- a representative of the conjugacy class of each element, and an element that carries it there (textbook)
pub record Classes {G : Type 0} (P : Group G) : Type 0 where
  pub representative : G → G
  pub carrier : G → G
  pub carries : (g : G) → conj P g (carrier g) ≡ representative g
  pub constant : (g c : G) → representative (conj P g c) ≡ representative g

module _ {A G : Type 0} (T : Setting A G) where
  -- g x = x g
  abbrev pub Commuting : G → G → Type 0
  Commuting g x = T.group.op g x ≡ T.group.op x g

  -- whether g x = x g
  unfoldable pub commute : G → G → Bool
  commute g x = equals T.finite (T.group.op g x) (T.group.op x g)
