-- The matrix S of a twisted quantum double, times the order of its group, row after row.
use Rattle.std.specs.Prelude.{ℕ, ℤ, List, map}
use Rattle.std.specs.List.{range_with_len}
use Rattle.cyclotomic.specs.CyclotomicRing.{CyclotomicValue, cyclotomic_value}
use Rattle.transport.specs.Simples.{SimplesOver, count}
use Rattle.transport.specs.SSums.{s_sum}

-- the values for which these lists of coefficients stand
abbrev pub row_values : (k : ℕ) → List (List ℤ) → List (CyclotomicValue k)
row_values k row = map (λ coefficients. cyclotomic_value k coefficients) row

abbrev pub values_of_rows : (k : ℕ) → List (List (List ℤ)) → List (List (CyclotomicValue k))
values_of_rows k rows = map (row_values k) rows

module _ (k : ℕ) (s : SimplesOver) where
  -- the first m numerators of the simple i
  abbrev pub s_front : ℕ → ℕ → List (CyclotomicValue k)
  s_front i m = map (λ j. (s_sum k s i j).value) (range_with_len 0 m)

  -- all numerators, a row for each simple
  abbrev pub s_rows : List (List (CyclotomicValue k))
  s_rows = map (λ i. s_front i (count k s)) (range_with_len 0 (count k s))
