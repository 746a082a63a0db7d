-- The rows of a block, put together value after value.
use Rattle.qd_steps.proofs.Names.{◌≡◌, ℕ, ◌+◌, ◌-◌, ◌<◌, List, [], ◌∷◌, ◌++◌, length, take, get_or, set, refl, ap, sym, ◌∙◌, length-append, arith, get_or_push, take_more, set-append_seam, row_at, with_value}
use Rattle.qd_ring.proofs.LastRows.{with_value_last}

-- one value more of a row
pub value_more : {A : Type 0} (front rows : List (List A)) (row : List A) (p : ℕ) (v d : A) → p < length row → rows ≡ with_value (front ++ take p row ∷ []) v → v ≡ get_or row p d
    → rows ≡ front ++ take (p + 1) row ∷ []
value_more front rows row p v d below added is =
    added ∙ with_value_last front (take p row) v ∙ ap (λ r. front ++ r ∷ []) (ap (λ x. take p row ++ x ∷ []) is ∙ sym (take_more row p d below))
