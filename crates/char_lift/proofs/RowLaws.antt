-- Rows that are put together value after value.
use Rattle.char_lift.proofs.Names.{◌≡◌, ℕ, ◌+◌, ◌-◌, ◌<◌, List, [], ◌∷◌, ◌++◌, length, set, refl, ap, ◌∙◌, length-append, arith, set-append_seam, row_at, with_value, tabulated, tabulated-more}
use Rattle.qd_ring.proofs.LastRows.{last_row, with_value_last}
use Rattle.std.proofs.lemmas.List.{get_or_push}

-- one more value of a row
pub value_added : {A : Type 0} (front before after : List (List A)) (n : ℕ) (f : ℕ → A) (v : A) → before ≡ front ++ tabulated n f ∷ [] → after ≡ with_value before v → v ≡ f n
    → after ≡ front ++ tabulated (n + 1) f ∷ []
value_added front before after n f v is added value =
    added ∙ ap (λ rows. with_value rows v) is ∙ with_value_last front (tabulated n f) v
    ∙ ap (λ r. front ++ r ∷ []) (tabulated-more n f refl refl value)

-- the width of the last row, and how many rows there are
pub rows_added : {A : Type 0} (front rows : List (List A)) (row : List A) → rows ≡ front ++ row ∷ [] → (0 < length rows) × (row_at rows (length rows - 1) ≡ row)
rows_added front rows row is =
    (omega (arith, ap length is, length-append front (row ∷ [])), ap (λ r. row_at r (length r - 1)) is ∙ last_row front row)
