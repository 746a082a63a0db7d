-- Lists of values in lines.
use Rattle.std.specs.Prelude.{ℕ, List, codes}
use Rattle.std.specs.List.{flat_map}
use Rattle.cyclotomic.specs.Ring.{Value}
use Rattle.qd_ring.specs.ValueText.{value_text}
use Rattle.data_print.specs.Text.{◌⧺◌}

-- the text of a value, after a space
abbrev pub value_word : {n : ℕ} → Value n → List ℕ
value_word u = codes " " ⧺ value_text u.coefficients

-- those of all of these values
abbrev pub value_words : {n : ℕ} → List (Value n) → List ℕ
value_words values = flat_map (λ u. value_word u) values
