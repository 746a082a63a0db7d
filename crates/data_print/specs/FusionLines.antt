-- The lines of the fusion numbers that are not 0.
use Rattle.std.specs.Prelude.{ℕ, List, [], codes, nat_lt, if◌then◌else◌}
use Rattle.std.specs.Fmt.{decimal}
use Rattle.data_print.specs.Text.{◌⧺◌, first_lines}

-- the line that says that k comes `count` times in the product of i and j
abbrev pub number_line : ℕ → ℕ → ℕ → ℕ → List ℕ
number_line i j k count =
    codes "N " ⧺ decimal i ⧺ codes " " ⧺ decimal j ⧺ codes " " ⧺ decimal k ⧺ codes " " ⧺ decimal count ⧺ codes "\n"

module _ (n : ℕ) (number : ℕ → ℕ → ℕ → ℕ) where
  -- the line of a number over 0
  abbrev pub line_if_some : ℕ → ℕ → ℕ → List ℕ
  line_if_some i j k = if nat_lt 0 (number i j k) then number_line i j k (number i j k) else []

  -- the lines of the product of i and j
  abbrev pub product_text : ℕ → ℕ → List ℕ
  product_text i j = first_lines (λ k. line_if_some i j k) n

  -- the lines of the products of i with each simple
  abbrev pub products_text : ℕ → List ℕ
  products_text i = first_lines (λ j. product_text i j) n

  -- the lines of all numbers, by i, then j, then k
  abbrev pub fusion_text : List ℕ
  fusion_text = first_lines (λ i. products_text i) n
