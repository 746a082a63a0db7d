-- What holds of the list of commuting pairs, an orbit each.
use Rattle.std.specs.Prelude.{◌≡◌, ℕ, ◌<◌, ◌≤◌, List, length, slice_index_or, sum_by}
use mathlib.Core.Logic.{◌⊎◌}
use Rattle.group_table.specs.Group.{Table, product}
use Rattle.classes.specs.Conjugacy.{conjugate}
use Rattle.pair_orbits.specs.declared.pair.Pair.{Pair}
use Rattle.pair_orbits.specs.PairOrbits.{pair_number, commuting_pairs_of, conjugates_of}

-- met at no place
abbrev pub no_pair : Pair
no_pair = record { g = 0; h = 0; weight = 0 }

-- the pair at place m
abbrev pub pair_at : List Pair → ℕ → Pair
pair_at pairs m = slice_index_or pairs m no_pair

-- c carries the elements of the pair to g and h
pub record Carries (t : Table) (c : ℕ) (pair : Pair) (g h : ℕ) : Type 0 where
  pub below : c < t.order
  pub first : conjugate t c pair.g ≡ g
  pub second : conjugate t c pair.h ≡ h

module _ (t : Table) (pairs : List Pair) where
  -- the elements of each listed pair commute
  pub record AreCommuting : Type 0 where
    pub first_below : (m : ℕ) → m < length pairs → (pair_at pairs m).g < t.order
    pub second_below : (m : ℕ) → m < length pairs → (pair_at pairs m).h < t.order
    pub commute : (m : ℕ) → m < length pairs → product t (pair_at pairs m).g (pair_at pairs m).h ≡ product t (pair_at pairs m).h (pair_at pairs m).g

  -- each listed pair is the least of its conjugates: by its first element, then by its second
  pub record AreLeast : Type 0 where
    pub first_least : (m c : ℕ) → m < length pairs → c < t.order → (pair_at pairs m).g ≤ conjugate t c (pair_at pairs m).g
    pub second_least : (m c : ℕ) → m < length pairs → c < t.order
        → conjugate t c (pair_at pairs m).g ≡ (pair_at pairs m).g → (pair_at pairs m).h ≤ conjugate t c (pair_at pairs m).h

  -- each pair of elements that commute is a conjugate of a listed one
  pub record CoverCommuting : Type 0 where
    pub cover : (g h : ℕ) → g < t.order → h < t.order → product t g h ≡ product t h g
        → (m : ℕ) × (m < length pairs) × ((c : ℕ) × Carries t c (pair_at pairs m) g h)

  -- no two listed pairs are conjugate
  pub record AreListedOnce : Type 0 where
    pub unique : (m l c : ℕ) → m < length pairs → l < length pairs → Carries t c (pair_at pairs m) (pair_at pairs l).g (pair_at pairs l).h → m ≡ l

  -- the list ascends: by the first element, then by the second
  pub record Ascend : Type 0 where
    pub ascend : (m l : ℕ) → m < l → l < length pairs
        → ((pair_at pairs m).g < (pair_at pairs l).g) ⊎ (((pair_at pairs m).g ≡ (pair_at pairs l).g) × ((pair_at pairs m).h < (pair_at pairs l).h))

  -- the weight of each is the number of its conjugates, and the weights add up to the number of all pairs that commute
  pub record HoldWeights : Type 0 where
    pub weights : (m : ℕ) → m < length pairs
        → (pair_at pairs m).weight ≡ length (conjugates_of t (pair_number t (pair_at pairs m).g (pair_at pairs m).h))
    pub total : sum_by (λ pair. pair.weight) pairs ≡ length (commuting_pairs_of t)
