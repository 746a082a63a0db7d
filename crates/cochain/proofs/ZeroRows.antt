-- Where a cochain is 1 in each row that the cocycle law looks into, the law holds for every last argument; and marks of
-- rows, place after place.
use Rattle.cochain.proofs.Names.{◌≡◌, ℕ, ◌+◌, ◌*◌, ◌/◌, ◌%◌, ◌<◌, List, [], ◌∷◌, ◌++◌, Bool, true, false, nat_eq, length, get_or, None, refl, sym, ap, ◌∙◌, ◌⊎◌, inl, inr, arith, eqb-true, eq-eqb, first_none, all_below-at, and_true, no_fault, product, div-mul-add, mod-mul-add, get_or_append_left, get_or_push, closed, place_below, Cochain, value, left_side, right_side, is_closed_at, closure_fault_in, IsCochain, is_zero_row, has_zero_rows, MarksZeroRows, NotCocycle}

zero_in : (w : Cochain) (g h k : ℕ) → is_zero_row w g h ≡ true → k < w.group.order → value w g h k ≡ 0
zero_in w g h k row below = eqb-true (value w g h k) 0 (all_below-at w.group.order k (λ k. nat_eq (value w g h k) 0) row below)

pub closed_in_zero_rows : (w : Cochain) → IsCochain w → (g h k : ℕ) → g < w.group.order → h < w.group.order → k < w.group.order → has_zero_rows w g h k ≡ true → closure_fault_in w g h k ≡ None
closed_in_zero_rows w W g h k p q r rows =
    let n = w.group.order in
    let hk = product w.group h k in
    let gh = product w.group g h in
    let three = and_true _ (is_zero_row w gh k) rows in
    let two = and_true _ (is_zero_row w g hk) three.0 in
    let one = and_true (is_zero_row w g h) (is_zero_row w h k) two.0 in
    first_none n _
    (λ l s.
    let kl : product w.group k l < n = closed w.group k l W.group r s in
    let left : left_side w g h k l ≡ 0 =
    rw (zero_in w g h k one.0 r, zero_in w g hk l two.1 s, zero_in w h k l one.1 s) refl in
    let right : right_side w g h k l ≡ 0 = rw (zero_in w gh k l three.1 s, zero_in w g h (product w.group k l) one.0 kl) refl in
    no_fault (is_closed_at w g h k l) (NotCocycle g h k l) (eq-eqb _ _ (ap (λ z. z % w.roots) (left ∙ sym right))))

below_or_last : (j i : ℕ) → j < i + 1 → (j < i) ⊎ (j ≡ i)
below_or_last j i below = grind arith

-- the marks of the rows before the place i, and that of the row there
pub marks_more : (w : Cochain) (i : ℕ) (mark : Bool) (front all : List Bool) → all ≡ front ++ mark ∷ [] → length front ≡ i
    → mark ≡ is_zero_row w (i / w.group.order) (i % w.group.order)
    → ((j : ℕ) → j < i → get_or front j false ≡ is_zero_row w (j / w.group.order) (j % w.group.order))
    → (j : ℕ) → j < i + 1 → get_or all j false ≡ is_zero_row w (j / w.group.order) (j % w.group.order)
marks_more w i mark front all pushed long here before j below =
    elim (below_or_last j i below) [
      | inl less ↦
          let inside : j < length front = rw long less in
          rw pushed (get_or_append_left front (mark ∷ []) false j inside) ∙ before j less
      | inr last ↦
          let there : get_or all i false ≡ mark = rw pushed (get_or_push front mark false i long) in
          ap (λ (m : ℕ). get_or all m false) last ∙ there ∙ here ∙ ap (λ (m : ℕ). is_zero_row w (m / w.group.order) (m % w.group.order)) (sym last)
    ]

-- marks place after place are marks of the rows
pub marks_of : (w : Cochain) (marks : List Bool) → length marks ≡ w.group.order * w.group.order
    → ((j : ℕ) → j < w.group.order * w.group.order → get_or marks j false ≡ is_zero_row w (j / w.group.order) (j % w.group.order)) → MarksZeroRows w marks
marks_of w marks long each = record {
  count = long;
  each = λ g h p q.
      let n = w.group.order in
      each (g * n + h) (place_below n g h p q) ∙ rw (div-mul-add g n h q, mod-mul-add g n h q) refl;
}
