-- What holds of the list in each group, and of sums over all commuting pairs (textbook). A commutative ring is taken on the natural
-- numbers, as every countably infinite one is up to names.
use Rattle.std.specs.Prelude.{◌≡◌, ℕ, ◌*◌, ◌<◌, List, map, sum_by}
use Rattle.algebra.specs.Structures.{CommRing}
use Rattle.algebra.specs.Sums.{sum_below, pick, multiple, sum_list}
use Rattle.group_table.specs.Group.{Table, IsGroup, product}
use Rattle.classes.specs.Conjugacy.{conjugate}
use Rattle.pair_orbits.specs.declared.pair.Pair.{Pair}
use Rattle.pair_orbits.specs.PairOrbits.{first_of, second_of, is_commuting, commuting_pairs_of, listed_pairs}

-- f is the same at all conjugates of a pair of elements that commute
pub record IsInvariant {A : Type 0} (t : Table) (f : ℕ → ℕ → A) : Type 0 where
  pub same : (c g h : ℕ) → c < t.order → g < t.order → h < t.order → product t g h ≡ product t h g → f (conjugate t c g) (conjugate t c h) ≡ f g h

-- the sum of f over all pairs that commute
abbrev pub sum_over_pairs : {A : Type 0} → CommRing A → Table → (ℕ → ℕ → A) → A
sum_over_pairs R t f = sum_below R (t.order * t.order) (λ p. pick R (is_commuting t p) (f (first_of t p) (second_of t p)))

-- the sum of f over the listed pairs, each as often as its weight says
abbrev pub sum_over_orbits : {A : Type 0} → CommRing A → Table → (ℕ → ℕ → A) → A
sum_over_orbits R t f = sum_list R (map (λ pair. multiple R pair.weight (f pair.g pair.h)) (listed_pairs t))

-- these are one, where f is invariant
abbrev pub SumsOverOrbits : Type 0
SumsOverOrbits = (R : CommRing ℕ) (t : Table) → IsGroup t → (f : ℕ → ℕ → ℕ) → IsInvariant t f → sum_over_pairs R t f ≡ sum_over_orbits R t f

-- the same for numbers
abbrev pub SizesOverOrbits : Type 0
SizesOverOrbits =
    (t : Table) → IsGroup t → (size : ℕ → ℕ → ℕ) → IsInvariant t size →
    sum_by (λ p. size (first_of t p) (second_of t p)) (commuting_pairs_of t) ≡ sum_by (λ pair. pair.weight * size pair.g pair.h) (listed_pairs t)

-- the list of the group has these properties
abbrev pub OfListedPairs : (Table → List Pair → Type 0) → Type 0
OfListedPairs holds = (t : Table) → IsGroup t → holds t (listed_pairs t)
