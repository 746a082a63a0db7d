-- The lists that the indicators of the simples of a twisted quantum double are formed of.
use Rattle.std.specs.Prelude.{ℕ, ◌*◌, ◌/◌, ◌%◌, List, map}
use Rattle.std.specs.List.{range_with_len}
use Rattle.transport.specs.Simples.{SimplesOver, count, dimension_at, twist_at}

module _ (k : ℕ) (s : SimplesOver) where
  -- the dimensions of all simples, in order
  abbrev pub dimensions : List ℕ
  dimensions = map (dimension_at k s) (range_with_len 0 (count k s))

  -- the exponents of their twists
  abbrev pub twists : List ℕ
  twists = map (twist_at k s) (range_with_len 0 (count k s))

  -- the numbers into l of all i and j, row after row
  abbrev pub numbers_into : (ℕ → ℕ → ℕ → ℕ) → ℕ → List ℕ
  numbers_into number l = let r = count k s in map (λ q. number (q / r) (q % r) l) (range_with_len 0 (r * r))
