-- The last of a list, and what is put at its end.
use Rattle.qd_doc.proofs.Names.{Block, List, [], ap, arith, block, get_or, get_or-append_seam, last_rows, length, length-append, set, set-append_seam, with_last_rows, with_row, with_value, ℕ, ℤ, ◌++◌, ◌-◌, ◌∙◌, ◌∷◌, ◌≡◌}
use Rattle.qd_ring.specs.RowLists.{with_value as rows_with_value}

len_last : {A : Type 0} (front : List A) (x : A) → length (front ++ x ∷ []) - 1 ≡ length front
len_last front x = omega (arith, length-append front (x ∷ []))

pub at_last : {A : Type 0} (front : List A) (x d : A) → get_or (front ++ x ∷ []) (length (front ++ x ∷ []) - 1) d ≡ x
at_last front x d = ap (λ n. get_or (front ++ x ∷ []) n d) (len_last front x) ∙ get_or-append_seam front x [] d

set_last : {A : Type 0} (front : List A) (x y : A) → set (front ++ x ∷ []) (length (front ++ x ∷ []) - 1) y ≡ front ++ y ∷ []
set_last front x y = ap (λ n. set (front ++ x ∷ []) n y) (len_last front x) ∙ set-append_seam front x [] y

pub last_rows_are : (front : List Block) (b : Block) → last_rows (front ++ b ∷ []) ≡ b.rows
last_rows_are front b = ap (λ (c : Block). c.rows) (at_last front b (block 0 []))

with_last_rows_are : (front : List Block) (number : ℕ) (rows more : List (List (List ℤ))) → with_last_rows (front ++ block number rows ∷ []) more ≡ front ++ block number more ∷ []
with_last_rows_are front number rows more =
    ap (λ (b : Block). set (front ++ block number rows ∷ []) (length (front ++ block number rows ∷ []) - 1) (block b.representative more)) (at_last front (block number rows) (block 0 []))
    ∙ set_last front (block number rows) (block number more)

pub with_row_is : (front : List Block) (number : ℕ) (rows : List (List (List ℤ))) → with_row (front ++ block number rows ∷ []) ≡ front ++ block number (rows ++ [] ∷ []) ∷ []
with_row_is front number rows =
    with_last_rows_are front number rows (last_rows (front ++ block number rows ∷ []) ++ [] ∷ [])
    ∙ ap (λ rows. front ++ block number (rows ++ [] ∷ []) ∷ []) (last_rows_are front (block number rows))

rows_with_value_are : (rows : List (List (List ℤ))) (values : List (List ℤ)) (v : List ℤ) → rows_with_value (rows ++ values ∷ []) v ≡ rows ++ (values ++ v ∷ []) ∷ []
rows_with_value_are rows values v =
    ap (λ row. set (rows ++ values ∷ []) (length (rows ++ values ∷ []) - 1) (row ++ v ∷ [])) (at_last rows values [])
    ∙ set_last rows values (values ++ v ∷ [])

pub with_value_is : (front : List Block) (number : ℕ) (rows : List (List (List ℤ))) (values : List (List ℤ)) (v : List ℤ)
    → with_value (front ++ block number (rows ++ values ∷ []) ∷ []) v ≡ front ++ block number (rows ++ (values ++ v ∷ []) ∷ []) ∷ []
with_value_is front number rows values v =
    with_last_rows_are front number (rows ++ values ∷ []) (rows_with_value (last_rows (front ++ block number (rows ++ values ∷ []) ∷ [])) v)
    ∙ ap (λ rows. front ++ block number (rows_with_value rows v) ∷ []) (last_rows_are front (block number (rows ++ values ∷ [])))
    ∙ ap (λ rows. front ++ block number rows ∷ []) (rows_with_value_are rows values v)
