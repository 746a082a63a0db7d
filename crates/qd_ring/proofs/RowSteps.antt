-- A value at the end of the last row.
use Rattle.qd_ring.proofs.Names.{◌≡◌, ℕ, ◌+◌, ◌-◌, ◌<◌, ◌^◌, List, [], ◌∷◌, ◌++◌, length, map, get_or, set, ap, sym, ◌∙◌, subst, inl, inr, arith, length-append, length-set, cases_eq, map-set, map-append, get_or-map, length-map, get_or-set_other, Result, OnErr, Ok, Err, map-set_same, row_at, with_value}
use Rattle.std.proofs.lemmas.Grind.{get_or-set_at}

module _ {A B V : Type 0} (items : V → List A) (seen : A → B) (rows : List V) (i : ℕ) (old new : V) (inside : i < length rows) (at : old ≡ get_or rows i old) where
  -- the row that is seen at i
  row_seen : row_at (map (λ r. map seen (items r)) rows) i ≡ map seen (items old)
  row_seen = get_or-map (λ r. map seen (items r)) rows i old [] inside ∙ ap (λ r. map seen (items r)) (sym at)

  pub view_kept : items new ≡ items old → map (λ r. map seen (items r)) (set rows i new) ≡ map (λ r. map seen (items r)) rows
  view_kept same = map-set_same (λ r. map seen (items r)) rows i new old (ap (map seen) same ∙ ap (λ r. map seen (items r)) at)

  pub view_pushed : (x : A) → items new ≡ items old ++ x ∷ [] → i ≡ length rows - 1 → map (λ r. map seen (items r)) (set rows i new) ≡ with_value (map (λ r. map seen (items r)) rows) (seen x)
  view_pushed x pushed last =
      let view = map (λ r. map seen (items r)) rows in
      let place : i ≡ length view - 1 = last ∙ ap (λ n. n - 1) (sym (length-map rows (λ r. map seen (items r)))) in
      map-set (λ r. map seen (items r)) rows i new
      ∙ ap (set view i) (ap (map seen) pushed ∙ map-append seen (items old) (x ∷ []) ∙ ap (λ r. r ++ seen x ∷ []) (sym row_seen))
      ∙ ap (λ n. set view n (row_at view n ++ seen x ∷ [])) place

  pub widths_pushed : (x : A) → items new ≡ items old ++ x ∷ [] → i ≡ length rows - 1 → length (row_at (map (λ r. map seen (items r)) rows) (length (map (λ r. map seen (items r)) rows) - 1)) + 1 < 2 ^ 32
      → ((k : ℕ) (d : V) → k < length rows → length (items (get_or rows k d)) < 2 ^ 32) → (k : ℕ) (d : V) → k < length (set rows i new) → length (items (get_or (set rows i new) k d)) < 2 ^ 32
  widths_pushed x pushed last room small k d h = elim (cases_eq k i) [
    | inl e ↦
        let count : length (items new) ≡ length (items old) + 1 = ap length pushed ∙ length-append (items old) (x ∷ []) in
        let place : length (map (λ r. map seen (items r)) rows) - 1 ≡ i = ap (λ n. n - 1) (length-map rows (λ r. map seen (items r))) ∙ sym last in
        let width : length (row_at (map (λ r. map seen (items r)) rows) (length (map (λ r. map seen (items r)) rows) - 1)) ≡ length (items old) =
        ap (λ n. length (row_at (map (λ r. map seen (items r)) rows) n)) place ∙ ap length row_seen ∙ length-map (items old) seen in
        subst (λ r. length (items r) < 2 ^ 32) (sym (get_or-set_at rows i k new d e inside)) (omega arith)
    | inr apart ↦ subst (λ r. length (items r) < 2 ^ 32) (sym (get_or-set_other rows i k new d apart)) (small k d (omega (arith, length-set rows i new)))
  ]

-- what holds anyway holds on an error
pub on_error : {T E P : Type 0} (r : Result T E) → P → OnErr r P
on_error (Ok x) p = tt
on_error (Err e) p = p

-- the last of some rows
pub last_row : {V B : Type 0} (h : V → B) (rows : List V) (now : List B) (n len : ℕ) → map h rows ≡ now → 0 < length now → n ≡ len → len ≡ length rows → (n - 1 < length rows) × (n - 1 ≡ length rows - 1)
last_row h rows now n len view some count is = (omega (arith, length-map rows h, ap length view), omega arith)
