-- Lists of rows.
use Rattle.std.specs.Prelude.{ℕ, ◌-◌, List, [], ◌∷◌, ◌++◌, length, slice_index_or, slice_set}

-- the row at place i
abbrev pub row_at : {A : Type 0} → List (List A) → ℕ → List A
row_at rows i = slice_index_or rows i []

-- the rows with one more value at the end of the last of them
abbrev pub with_value : {A : Type 0} → List (List A) → A → List (List A)
with_value rows v = slice_set rows (length rows - 1) (row_at rows (length rows - 1) ++ v ∷ [])
