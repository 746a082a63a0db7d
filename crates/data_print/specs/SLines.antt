-- The lines of the matrix S times the order n of the group.
use Rattle.std.specs.Prelude.{ℕ, [], ℤ, List, map, codes, ◌==◌, if◌then◌else◌}
use Rattle.std.specs.Fmt.{decimal}
use Rattle.cyclotomic.specs.CyclotomicRing.{cyclotomic_value}
use Rattle.cyclotomic.specs.Ring.{Value}
use Rattle.qd_ring.specs.RowLists.{row_at}
use Rattle.data_print.specs.Text.{◌⧺◌}
use Rattle.data_print.specs.Values.{value_words}

-- the line that says by what the entries are multiplied, which stands before row 0 alone
abbrev pub s_head : ℕ → ℕ → List ℕ
s_head n i = if i == 0 then codes "S over " ⧺ decimal n ⧺ codes "\n" else []

-- the line of row i with these values
abbrev pub s_line : {n : ℕ} → ℕ → List (Value n) → List ℕ
s_line i values = codes "S " ⧺ decimal i ⧺ value_words values ⧺ codes "\n"

-- the lines for row i of these rows of coefficients
abbrev pub s_text : ℕ → ℕ → ℕ → List (List (List ℤ)) → List ℕ
s_text k n i rows = s_head n i ⧺ s_line i (map (λ coefficients. cyclotomic_value k coefficients) (row_at rows i))
