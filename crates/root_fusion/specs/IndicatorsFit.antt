-- Indicators of simples by good tables: the numbers that they are formed of are small, so that each sum fits.
use Rattle.std.specs.Prelude.{◌≡◌, ℕ, ◌*◌, ◌≤◌, true, List, All, length}
use Rattle.cyclotomic.specs.Conductors.{is_conductor}
use Rattle.transport.specs.Simples.{SimplesOver, count, dimension_at}
use Rattle.transport.specs.Fusion.{AreFusionNumbers}
use Rattle.transport.specs.Headline.{order_of, IsSimple}
use Rattle.indicators.specs.Indicators.{indicator_sum}
use Rattle.root_fusion.specs.IndicatorLists.{dimensions, numbers_into}

-- at most a million
abbrev pub IsSmall : ℕ → Type 0
IsSmall number = number ≤ 1000000

-- of at most a million dimensions, where these and all fusion numbers are at most a million, the sum is formed without overflow
abbrev pub SmallSumsFit : Type 0
SmallSumsFit =
    (k : ℕ) → is_conductor k ≡ true → (plane dims twists : List ℕ) (m : ℕ) → IsSmall (length dims) → All IsSmall dims → All IsSmall plane →
    (indicator_sum k plane dims twists m).fits ≡ true

module _ (k : ℕ) (s : SimplesOver) where
  -- each dimension is from 1 to the order of the group
  abbrev pub DimensionsAreSmall : Type 0
  DimensionsAreSmall = (i : ℕ) → IsSimple k s i → (1 ≤ dimension_at k s i) × (dimension_at k s i ≤ order_of s)

  -- so there are at most as many simples as the square of the order of the group
  abbrev pub SimplesAreFew : Type 0
  SimplesAreFew = count k s ≤ order_of s * order_of s

  -- each fusion number of i and j with l is at most D_i D_j, for the N_ijl D_l add up to that
  abbrev pub NumbersAreSmall : Type 0
  NumbersAreSmall =
      (number : ℕ → ℕ → ℕ → ℕ) → AreFusionNumbers k s number → (i j l : ℕ) → IsSimple k s i → IsSimple k s j → IsSimple k s l →
      number i j l ≤ dimension_at k s i * dimension_at k s j

  -- of fusion numbers each sum is formed without overflow, for any twists
  abbrev pub IndicatorsFit : Type 0
  IndicatorsFit =
      (number : ℕ → ℕ → ℕ → ℕ) → AreFusionNumbers k s number → (l : ℕ) → IsSimple k s l → (twists : List ℕ) (m : ℕ) →
      (indicator_sum k (numbers_into k s number l) (dimensions k s) twists m).fits ≡ true
