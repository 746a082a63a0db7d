-- The indicators of the simples of a twisted quantum double, times the square of the order of its group, as sums over pairs of simples
-- (Bantay 1997 for order 2; Ng, Schauenburg 2007 for every order).
use Rattle.std.specs.Prelude.{◌≡◌, ℕ, ◌*◌}
use Rattle.algebra.specs.Sums.{power}
use Rattle.cyclotomic.specs.CyclotomicRing.{CyclotomicValue, cyclotomic_ring, conjugate}
use Rattle.table_check.specs.Formed.{whole}
use Rattle.transport.specs.Simples.{SimplesOver, count, dimension_at}
use Rattle.transport.specs.Matrices.{sum_of, times, twist_root}
use Rattle.indicators.specs.Indicators.{indicator_sum}
use Rattle.root_fusion.specs.IndicatorLists.{dimensions, twists, numbers_into}

module _ (k : ℕ) (s : SimplesOver) where
  -- T_i/T_j, where T_i is the root of unity of the twist of i: the inverse of a root of unity is its conjugate
  abbrev pub twist_quotient : ℕ → ℕ → CyclotomicValue k
  twist_quotient i j = times k (twist_root k s i) (conjugate k (twist_root k s j))

  -- N D_i D_j (T_i/T_j)^m, where N is the fusion number of i and j
  abbrev pub pair_value : ℕ → ℕ → ℕ → ℕ → CyclotomicValue k
  pair_value m number i j = times k (whole k (number * (dimension_at k s i * dimension_at k s j))) (power (cyclotomic_ring k) (twist_quotient i j) m)

  -- for all numbers N_ij the sum is that of the N_ij D_i D_j (T_i/T_j)^m over all simples i and j
  abbrev pub IndicatorValues : Type 0
  IndicatorValues =
      (number : ℕ → ℕ → ℕ → ℕ) (l m : ℕ) →
      (indicator_sum k (numbers_into k s number l) (dimensions k s) (twists k s) m).value
      ≡ sum_of k (count k s) (λ i. sum_of k (count k s) (λ j. pair_value m (number i j l) i j))
