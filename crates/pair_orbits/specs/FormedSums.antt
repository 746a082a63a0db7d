-- Listed sums of values of the cyclotomic ring over all commuting pairs, and over the listed ones.
use Rattle.std.specs.Prelude.{◌≡◌, ℕ, ◌*◌, ◌<◌, not, true, List, map}
use Rattle.algebra.specs.Sums.{multiple, sum_list}
use Rattle.cyclotomic.specs.CyclotomicRing.{CyclotomicValue, cyclotomic_ring}
use Rattle.cyclotomic.specs.Fit.{sizes_overflow}
use Rattle.group_table.specs.Group.{Table, IsGroup, product}
use Rattle.qd_ring.specs.Formed.{Formed, listed, where_so}
use Rattle.pair_orbits.specs.declared.pair.Pair.{Pair}
use Rattle.pair_orbits.specs.PairOrbits.{first_of, second_of, is_commuting, listed_pairs}
use Rattle.pair_orbits.specs.Laws.{IsInvariant}

module _ (k : ℕ) where
  -- the sum of the values at the elements of a list, which overflows where their sizes add up to too much
  abbrev pub added : {X : Type 0} → (X → CyclotomicValue k) → List X → Formed k
  added value xs = record {
    fits = not (sizes_overflow (map value xs));
    value = sum_list (cyclotomic_ring k) (map value xs);
  }

  -- the listed sum of a term over all commuting pairs, row after row
  abbrev pub pairs_sum : Table → (ℕ → ℕ → Formed k) → Formed k
  pairs_sum t term = listed k (t.order * t.order) (λ p. where_so k (is_commuting t p) (term (first_of t p) (second_of t p)))

  -- the value of the term at a listed pair, as often as its weight says
  abbrev pub weighted : (ℕ → ℕ → Formed k) → Pair → CyclotomicValue k
  weighted term pair = multiple (cyclotomic_ring k) pair.weight (term pair.g pair.h).value

  -- the term is formed by steps that fit at each commuting pair
  pub record AllFit (t : Table) (term : ℕ → ℕ → Formed k) : Type 0 where
    pub fit : (g h : ℕ) → g < t.order → h < t.order → product t g h ≡ product t h g → (term g h).fits ≡ true

-- where the terms fit and their values are invariant, the sum over all commuting pairs is that over the listed ones with their weights, and
-- overflows exactly where that does
abbrev pub FormedOverOrbits : Type 0
FormedOverOrbits =
    (k : ℕ) (t : Table) → IsGroup t → (term : ℕ → ℕ → Formed k) → AllFit k t term → IsInvariant t (λ g h. (term g h).value) →
    pairs_sum k t term ≡ added k (weighted k term) (listed_pairs t)
