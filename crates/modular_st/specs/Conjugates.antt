-- The conjugates of all full characters at the listed pairs, as they are kept.
use Rattle.std.specs.Prelude.{◌≡◌, ℕ, ◌*◌, ◌/◌, ◌%◌, ◌^◌, ◌<◌, Bool, true, ◌&&◌, ◌==◌, List, length, get_or, map}
use Rattle.std.specs.List.{filter}
use Rattle.std.specs.Global.{Vec}
use Rattle.algebra.specs.Sums.{multiple}
use Rattle.classes.specs.Conjugacy.{representatives, class_of}
use Rattle.cyclotomic.specs.Cyclotomic.{cyclotomic}
use Rattle.cyclotomic.specs.Ring.{value_product}
use Rattle.cyclotomic.specs.CyclotomicRing.{CyclotomicValue, cyclotomic_ring, root, conjugate}
use Rattle.cyclotomic.specs.Fit.{value_size}
use Rattle.group_table.specs.Group.{Table}
use Rattle.pair_orbits.specs.declared.pair.Pair.{Pair}
use Rattle.pair_orbits.specs.PairOrbits.{listed_pairs}
use Rattle.pair_orbits.specs.Listing.{pair_at}
use Rattle.qd_ring.specs.declared.monomial.Monomial.{Monomial}
use Rattle.qd_ring.specs.SparseValues.{value_of_terms}
use Rattle.transport.specs.Simples.{SimplesOver, count, class_at}
use Rattle.transport.specs.FullCharacters.{full_character}
use Rattle.modular_st.specs.declared.conjugates.KeptConjugates.{KeptConjugates}

-- each element has this property at its place
abbrev pub AllAt : {A : Type 0} → (ℕ → A → Type 0) → List A → Type 0
AllAt {A} holds xs = (p : ℕ) (otherwise : A) → p < length xs → holds p (get_or xs p otherwise)

-- the same elements the other way round, once
abbrev pub exchanged : Pair → Pair
exchanged pair = record { g = pair.h; h = pair.g; weight = 1 }

-- the first element is in the class c, and the second in the class d
abbrev pub meets : Table → ℕ → ℕ → Pair → Bool
meets t c d pair = (class_of t pair.g == c) && (class_of t pair.h == d)

-- the multiples of the value by roots of unity have small coefficients
pub record IsSmall (k : ℕ) (u : CyclotomicValue k) : Type 0 where
  pub small : (e : ℕ) → value_size (value_product (cyclotomic k) (root k e) u) < 2 ^ 54

module _ (k : ℕ) (s : SimplesOver) where
  -- the conjugate of the full character of i at a pair, as often as its weight says
  abbrev pub conjugate_at : ℕ → Pair → CyclotomicValue k
  conjugate_at i pair = multiple (cyclotomic_ring k) pair.weight (conjugate k (full_character k s i pair.g pair.h).value)

  -- the pairs of a list whose first element is in the class of i and whose second is in the class d
  abbrev pub met_pairs : ℕ → ℕ → List Pair → List Pair
  met_pairs i d pairs = filter (meets s.cocycle.group (class_at k s i) d) pairs

  -- the conjugates of i at these pairs of a list, in sparse form, all of which are small
  pub record IsKeptRow (pairs : List Pair) (i d : ℕ) (row : List (List Monomial)) : Type 0 where
    pub values : map (value_of_terms k) row ≡ map (conjugate_at i) (met_pairs i d pairs)
    pub small : (m : ℕ) → m < length pairs → meets s.cocycle.group (class_at k s i) d (pair_at pairs m) ≡ true → IsSmall k (conjugate_at i (pair_at pairs m))

  -- those of all simples, by simple and class
  pub record AreKeptRows (pairs : List Pair) (rows : List (Vec (List Monomial))) : Type 0 where
    pub count_is : length rows ≡ count k s * length (representatives s.cocycle.group)
    pub kept : AllAt (λ q row. let r = length (representatives s.cocycle.group) in IsKeptRow pairs (q / r) (q % r) row.items) rows

  -- those at the listed pairs, and those at these the other way round
  pub record AreKept (kept : KeptConjugates k) : Type 0 where
    pub at_pairs : AreKeptRows (listed_pairs s.cocycle.group) kept.at_pairs.items
    pub at_exchanged : AreKeptRows (map exchanged (listed_pairs s.cocycle.group)) kept.at_exchanged.items
