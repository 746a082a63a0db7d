-- Fusion numbers of the simples of a twisted quantum double: the fusion sums over the order of the group (by the coproduct of Dijkgraaf,
-- Pasquier, Roche 1990). i, j and l are simples.
use Rattle.std.specs.Prelude.{◌≡◌, ℕ, ◌*◌, ◌/◌, ◌≤◌, ◌<◌, ℤ, pos, negsuc, Option, Some, None, is_some, unwrap_or, if◌then◌else◌}
use Rattle.scan.specs.First.{first}
use Rattle.cyclotomic.specs.Polynomial.{coefficient}
use Rattle.cyclotomic.specs.CyclotomicRing.{CyclotomicValue}
use Rattle.table_check.specs.Formed.{whole}
use Rattle.table_check.specs.Check.{is_same, where_holds}
use Rattle.transport.specs.Simples.{SimplesOver, count}
use Rattle.transport.specs.Fusion.{fusion_sum}

-- a whole number, where it is at least 0
abbrev pub natural_of : ℤ → Option ℕ
natural_of (pos n) = Some n
natural_of (negsuc n) = None

-- c over n, rounded down; 0 for a negative c
abbrev pub quotient_of : ℕ → ℤ → ℕ
quotient_of n c = unwrap_or (natural_of c) 0 / n

-- the whole number of at least 0 of which the value u is the multiple by n, where there is one: it is read off the coefficient at power 0
abbrev pub whole_quotient : (k n : ℕ) → CyclotomicValue k → Option ℕ
whole_quotient k n u = let v = quotient_of n (coefficient u.coefficients 0) in where_holds (is_same u (whole k (n * v))) v

module _ (k : ℕ) (s : SimplesOver) where
  -- the whole number of at least 0 of which the fusion sum is the multiple by the order of the group, where there is one
  abbrev pub quotient_at : ℕ → ℕ → ℕ → Option ℕ
  quotient_at i j l = whole_quotient k s.cocycle.group.order (fusion_sum k s i j l).value

  -- that number, 0 where there is none
  abbrev pub fusion_number : ℕ → ℕ → ℕ → ℕ
  fusion_number i j l = unwrap_or (quotient_at i j l) 0

  -- these three simples, where there is none
  abbrev pub sum_fault : ℕ → ℕ → ℕ → Option (ℕ × ℕ × ℕ)
  sum_fault i j l = if is_some (quotient_at i j l) then None else Some (i, j, l)

  -- the first of those with i and j
  abbrev pub pair_fault : ℕ → ℕ → Option (ℕ × ℕ × ℕ)
  pair_fault i j = first (count k s) (sum_fault i j)

  -- the first of those with i
  abbrev pub simple_fault : ℕ → Option (ℕ × ℕ × ℕ)
  simple_fault i = first (count k s) (pair_fault i)

  -- the first of all, by i, then j, then l
  abbrev pub whole_fault : Option (ℕ × ℕ × ℕ)
  whole_fault = first (count k s) simple_fault

  -- the fusion sums of all pairs of simples before i and j are such multiples
  pub record PairsBeforeAreWhole (i j : ℕ) : Type 0 where
    pub lesser_first : first i simple_fault ≡ None
    pub lesser_second : first j (pair_fault i) ≡ None

  -- besides, those of i and j with the simples before l
  pub record SumsBeforeAreWhole (i j l : ℕ) : Type 0 where
    pub pairs : PairsBeforeAreWhole i j
    pub lesser_third : first l (sum_fault i j) ≡ None

  -- these are the fusion numbers
  pub record HoldsFusionNumbers (number : ℕ → ℕ → ℕ → ℕ) : Type 0 where
    pub numbers : (i j l : ℕ) → i < count k s → j < count k s → l < count k s → number i j l ≡ fusion_number i j l

  -- none is over 3600, the square of the greatest order of a group
  pub record HoldsSmallNumbers (number : ℕ → ℕ → ℕ → ℕ) : Type 0 where
    pub small : (i j l : ℕ) → i < count k s → j < count k s → l < count k s → number i j l ≤ 3600
