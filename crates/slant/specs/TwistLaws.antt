-- What the twisted centraliser of an element is, for each normalised 3-cocycle (Dijkgraaf, Pasquier, Roche 1990).
use Rattle.std.specs.Prelude.{◌≡◌, ℕ, ◌<◌, ◌↔◌, Contains}
use Rattle.group_table.specs.Group.{product, inverse, identity_of, Commute}
use Rattle.cochain.specs.Cochain.{Cochain, IsCocycle}
use Rattle.twisted.specs.Twist.{size, element, phase, IsTwist}
use Rattle.twisted.specs.Regular.{kappa as kappa_at_places}
use Rattle.slant.specs.Phases.{theta, kappa}
use Rattle.slant.specs.Laws.{IsElement}
use Rattle.slant.specs.Twists.{twist_of}

-- the slant product at a is a normalised 2-cocycle of the centraliser of a, which is a group on its places
abbrev pub CentraliserIsTwist : Type 0
CentraliserIsTwist = (w : Cochain) → IsCocycle w → (a : ℕ) → IsElement w a → IsTwist (twist_of w a)

-- its elements are those that commute with a
abbrev pub ElementsCommute : Type 0
ElementsCommute =
    (w : Cochain) → IsCocycle w → (a x : ℕ) → Contains (twist_of w a).elements x ↔ (IsElement w x × Commute w.group x a)

-- the element at the place of a product is the product of the elements
abbrev pub ProductsAgree : Type 0
ProductsAgree =
    (w : Cochain) → IsCocycle w → (a p r : ℕ) → IsElement w a → p < size (twist_of w a) → r < size (twist_of w a) →
    element (twist_of w a) (product (twist_of w a).group p r) ≡ product w.group (element (twist_of w a) p) (element (twist_of w a) r)

-- so are the identity
abbrev pub IdentitiesAgree : Type 0
IdentitiesAgree =
    (w : Cochain) → IsCocycle w → (a : ℕ) → IsElement w a →
    element (twist_of w a) (identity_of (twist_of w a).group) ≡ identity_of w.group

-- and inverses
abbrev pub InversesAgree : Type 0
InversesAgree =
    (w : Cochain) → IsCocycle w → (a p : ℕ) → IsElement w a → p < size (twist_of w a) →
    element (twist_of w a) (inverse (twist_of w a).group p) ≡ inverse w.group (element (twist_of w a) p)

-- the phase at two places is th_a at their elements
abbrev pub PhasesAgree : Type 0
PhasesAgree =
    (w : Cochain) → IsCocycle w → (a p r : ℕ) → IsElement w a → p < size (twist_of w a) → r < size (twist_of w a) →
    phase (twist_of w a) p r ≡ theta w a (element (twist_of w a) p) (element (twist_of w a) r)

-- the conjugation phase at two places is that at their elements
abbrev pub KappasAgree : Type 0
KappasAgree =
    (w : Cochain) → IsCocycle w → (a c p : ℕ) → IsElement w a → c < size (twist_of w a) → p < size (twist_of w a) →
    kappa_at_places (twist_of w a) c p ≡ kappa w a (element (twist_of w a) c) (element (twist_of w a) p)
