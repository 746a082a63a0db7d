-- The line of an indicator times the square of the order of the group.
use Rattle.std.specs.Prelude.{ℕ, List, codes}
use Rattle.std.specs.Fmt.{decimal}
use Rattle.cyclotomic.specs.Ring.{Value}
use Rattle.data_print.specs.Text.{◌⧺◌}
use Rattle.data_print.specs.Values.{value_word}

-- the line of the simple k
abbrev pub indicator_line : {n : ℕ} → ℕ → Value n → List ℕ
indicator_line k numerator = codes "nu " ⧺ decimal k ⧺ value_word numerator ⧺ codes "\n"
