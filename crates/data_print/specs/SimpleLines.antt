-- The lines of the simples of a twisted quantum double.
use Rattle.std.specs.Prelude.{ℕ, List, map, codes}
use Rattle.std.specs.List.{range_with_len}
use Rattle.std.specs.Fmt.{decimal}
use Rattle.cyclotomic.specs.CyclotomicRing.{CyclotomicValue}
use Rattle.twisted.specs.Twist.{size}
use Rattle.transport.specs.Simples.{SimplesOver, count, class_at, over_at, degree_at, dimension_at, twist_at, value_at}
use Rattle.data_print.specs.Text.{◌⧺◌, first_lines}
use Rattle.data_print.specs.Values.{value_words}

module _ (k : ℕ) (s : SimplesOver) where
  -- the line of the numbers of the simple i
  abbrev pub simple_line : ℕ → List ℕ
  simple_line i =
      codes "simple " ⧺ decimal i ⧺ codes " class " ⧺ decimal (class_at k s i) ⧺ codes " degree " ⧺ decimal (degree_at k s i)
      ⧺ codes " dimension " ⧺ decimal (dimension_at k s i) ⧺ codes " twist " ⧺ decimal (twist_at k s i) ⧺ codes "\n"

  -- its values at the first n elements of the centraliser, which ascend
  abbrev pub first_values : ℕ → ℕ → List (CyclotomicValue k)
  first_values i n = map (λ p. value_at k s i p) (range_with_len 0 n)

  -- the line of all its values
  abbrev pub character_line : ℕ → List ℕ
  character_line i = codes "chi " ⧺ decimal i ⧺ value_words (first_values i (size (over_at k s i))) ⧺ codes "\n"

  -- the two lines of each simple, in order
  abbrev pub simples_text : List ℕ
  simples_text = first_lines (λ i. simple_line i ⧺ character_line i) (count k s)
