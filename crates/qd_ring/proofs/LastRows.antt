-- Rows of which the last is known, and a value at its end.
use Rattle.qd_ring.proofs.Names.{◌≡◌, ℕ, ◌-◌, List, [], ◌∷◌, ◌++◌, length, set, refl, ap, ◌∙◌, arith, length-append, row_at, with_value}
use Rattle.std.proofs.Math.Seq.{set-append_seam}
use Rattle.std.proofs.lemmas.List.{get_or_push}

module _ {A : Type 0} (front : List (List A)) (row : List A) where
  last_place : length (front ++ row ∷ []) - 1 ≡ length front
  last_place = omega (arith, length-append front (row ∷ []))

  pub last_row : row_at (front ++ row ∷ []) (length (front ++ row ∷ []) - 1) ≡ row
  last_row = ap (row_at (front ++ row ∷ [])) last_place ∙ get_or_push front row [] (length front) refl

  pub with_value_last : (v : A) → with_value (front ++ row ∷ []) v ≡ front ++ (row ++ v ∷ []) ∷ []
  with_value_last v =
      ap (λ r. set (front ++ row ∷ []) (length (front ++ row ∷ []) - 1) (r ++ v ∷ [])) last_row
      ∙ ap (λ n. set (front ++ row ∷ []) n (row ++ v ∷ [])) last_place
      ∙ set-append_seam front row [] (row ++ v ∷ [])
