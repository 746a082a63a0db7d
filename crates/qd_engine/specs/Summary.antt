-- The summary of a sample: how many simples there are, how many fusion numbers are not 0, what these add up to, and what the exponents
-- of the twists do.
use Rattle.std.specs.Prelude.{ℕ, ◌*◌, ◌/◌, ◌%◌, ◌==◌, if◌then◌else◌, List, map, sum, codes}
use Rattle.std.specs.List.{range_with_len}
use Rattle.std.specs.Fmt.{decimal}
use Rattle.transport.specs.Simples.{SimplesOver, count}
use Rattle.fusion.specs.Numbers.{fusion_number}
use Rattle.root_fusion.specs.IndicatorLists.{twists}
use Rattle.data_print.specs.Text.{◌⧺◌}

-- the sum of a number of three simples over all three below n
abbrev pub sum_of_three : ℕ → (ℕ → ℕ → ℕ → ℕ) → ℕ
sum_of_three n number = sum (map (λ p. number (p / n / n) (p / n % n) (p % n)) (range_with_len 0 (n * n * n)))

-- how many of these numbers are not 0
abbrev pub how_many : ℕ → (ℕ → ℕ → ℕ → ℕ) → ℕ
how_many n number = sum_of_three n (λ i j l. if number i j l == 0 then 0 else 1)

-- the line of the sample with a number, up to its simples: the order of the group, the conductor, the modulus
abbrev pub sample_start : ℕ → ℕ → ℕ → ℕ → List ℕ
sample_start number n k q =
    codes "sample " ⧺ decimal number ⧺ codes " order " ⧺ decimal n ⧺ codes " conductor " ⧺ decimal k ⧺ codes " modulus " ⧺ decimal q

-- the rest of it
abbrev pub sample_end : ℕ → ℕ → ℕ → ℕ → List ℕ
sample_end simples nonzero total exponents =
    codes " simples " ⧺ decimal simples ⧺ codes " nonzero " ⧺ decimal nonzero ⧺ codes " total " ⧺ decimal total
    ⧺ codes " twists " ⧺ decimal exponents ⧺ codes "\n"

module _ (k : ℕ) (s : SimplesOver) where
  -- the line of a sample with these simples, whose rows are lifted modulo q
  abbrev pub sample_line : ℕ → ℕ → List ℕ
  sample_line q number =
      sample_start number s.cocycle.group.order k q
      ⧺ sample_end (count k s) (how_many (count k s) (fusion_number k s)) (sum_of_three (count k s) (fusion_number k s)) (sum (twists k s))
