-- Stretches where items or a head are added.
use Rattle.qd_doc.proofs.Names.{All, All-drop, All-take, AreInOrder, List, [], ap, append-nil, append_assoc, arith, drop, drop-append-le, drop_at, first_start, get_or, length, length-append, length-take-le, refl, stretches, subst, suc, sym, take, take-append-drop, take-append-le, take_all, zero, ℕ, ◌++◌, ◌-◌, ◌<◌, ◌∙◌, ◌∷◌, ◌≡◌, ◌≤◌}
use Rattle.std.proofs.lemmas.List.{length-drop}

module _ {H : Type 0} (start : H → ℕ) where
  first_in : (heads : List H) (end : ℕ) → AreInOrder start heads end → first_start start heads end ≤ end
  first_in [] end order = omega arith
  first_in (head ∷ heads) end order = omega (arith, first_in heads end order.1, order.0)

  first_pushed : (heads : List H) (head : H) (end : ℕ) → first_start start (heads ++ head ∷ []) end ≡ first_start start heads (start head)
  first_pushed [] head end = refl
  first_pushed (other ∷ heads) head end = refl

  -- heads in order stay so with one more at the end, and a later end
  pub order_pushed : (heads : List H) (head : H) (end : ℕ) → AreInOrder start heads (start head) → start head ≤ end → AreInOrder start (heads ++ head ∷ []) end
  order_pushed [] head end order later = (later, tt)
  order_pushed (other ∷ heads) head end order later =
      (rw (first_pushed heads head end) order.0, order_pushed heads head end order.1 later)

  pub order_later : (heads : List H) (end later : ℕ) → end ≤ later → AreInOrder start heads end → AreInOrder start heads later
  order_later [] end later more order = tt
  order_later (head ∷ []) end later more order = (omega (arith, order.0), tt)
  order_later (head ∷ next ∷ heads) end later more order = (order.0, order_later (next ∷ heads) end later more order.1)

  -- a stretch lies within the items
  pub stretch_inside : (heads : List H) (end i : ℕ) (d : H) → AreInOrder start heads end → i < length heads
      → (start (get_or heads i d) ≤ first_start start (drop (suc i) heads) end) × (first_start start (drop (suc i) heads) end ≤ end)
  stretch_inside (head ∷ heads) end zero d order inside = (order.0, first_in heads end order.1)
  stretch_inside (head ∷ heads) end (suc i) d order inside = stretch_inside heads end i d order.1 (omega arith)
  stretch_inside [] end i d order inside = absurd (omega arith)

  -- a head and the others before it
  pub order_of_push : (heads : List H) (head : H) (end : ℕ) → AreInOrder start (heads ++ head ∷ []) end → AreInOrder start heads (start head) × (start head ≤ end)
  order_of_push [] head end order = (tt, order.0)
  order_of_push (other ∷ heads) head end order =
      let more : AreInOrder start heads (start head) × (start head ≤ end) = order_of_push heads head end order.1 in
      ((rw (← first_pushed heads head end) order.0, more.0), more.1)

  module _ {A B : Type 0} (seen : H → List A → B) where
    pub length-stretches : (heads : List H) (items : List A) → length (stretches start seen heads items) ≡ length heads
    length-stretches [] items = refl
    length-stretches (head ∷ heads) items = ap suc (length-stretches heads items)

    -- the last head has all items from where it starts
    pub stretches_pushed : (heads : List H) (head : H) (items more : List A) → AreInOrder start heads (length items) → start head ≡ length items
        → stretches start seen (heads ++ head ∷ []) (items ++ more) ≡ stretches start seen heads items ++ seen head more ∷ []
    stretches_pushed [] head items more order at =
        let rest : drop (start head) (items ++ more) ≡ more = drop_at items more (start head) (sym at) in
        let count : length more ≤ length (items ++ more) - start head = omega (arith, length-append items more) in
        ap (λ part. seen head part ∷ []) (ap (take (length (items ++ more) - start head)) rest ∙ take_all (length (items ++ more) - start head) more count)
    stretches_pushed (other ∷ heads) head items more order at =
        let end : first_start start (heads ++ head ∷ []) (length (items ++ more)) ≡ first_start start heads (length items) =
        first_pushed heads head (length (items ++ more)) ∙ ap (first_start start heads) at in
        let within : first_start start heads (length items) ≤ length items = first_in heads (length items) order.1 in
        let front : take (first_start start (heads ++ head ∷ []) (length (items ++ more)) - start other) (drop (start other) (items ++ more)) ≡ take (first_start start heads (length items) - start other) (drop (start other) items) =
        ap (λ n. take (n - start other) (drop (start other) (items ++ more))) end
        ∙ ap (take (first_start start heads (length items) - start other)) (drop-append-le (start other) items more (omega (arith, order.0)))
        ∙ take-append-le (first_start start heads (length items) - start other) (drop (start other) items) more (omega (arith, length-drop (start other) items)) in
        ap (λ part. seen other part ∷ stretches start seen (heads ++ head ∷ []) (items ++ more)) front
        ∙ ap (λ rest. seen other (take (first_start start heads (length items) - start other) (drop (start other) items)) ∷ rest) (stretches_pushed heads head items more order.1 at)

    -- a stretch by its head
    pub stretch_at : (heads : List H) (items : List A) (i : ℕ) (d : H) (e : B) → i < length heads
        → get_or (stretches start seen heads items) i e ≡ seen (get_or heads i d) (take (first_start start (drop (suc i) heads) (length items) - start (get_or heads i d)) (drop (start (get_or heads i d)) items))
    stretch_at (head ∷ heads) items zero d e inside = refl
    stretch_at (head ∷ heads) items (suc i) d e inside = stretch_at heads items i d e (omega arith)
    stretch_at [] items i d e inside = absurd (omega arith)

    -- stretches that are seen the same
    pub stretches_same : (P : A → Type 0) (also : H → List A → B) → ((head : H) (part : List A) → All P part → seen head part ≡ also head part) → (heads : List H) (items : List A) → All P items
        → stretches start seen heads items ≡ stretches start also heads items
    stretches_same P also same [] items each = refl
    stretches_same P also same (head ∷ heads) items each =
        let part : List A = take (first_start start heads (length items) - start head) (drop (start head) items) in
        let these : All P part = All-take P (first_start start heads (length items) - start head) (drop (start head) items) (All-drop P (start head) items each) in
        ap (λ b. b ∷ stretches start seen heads items) (same head part these)
        ∙ ap (λ rest. also head part ∷ rest) (stretches_same P also same heads items each)

    -- one more head, of nothing
    pub head_pushed : (heads : List H) (head : H) (items : List A) → AreInOrder start heads (length items) → start head ≡ length items
        → stretches start seen (heads ++ head ∷ []) items ≡ stretches start seen heads items ++ seen head [] ∷ []
    head_pushed heads head items order at =
        ap (stretches start seen (heads ++ head ∷ [])) (sym (append-nil items)) ∙ stretches_pushed heads head items [] order at

    -- the last head has all items from where it starts, also with more of them
    pub last_stretch : (heads : List H) (head : H) (items more : List A) → AreInOrder start (heads ++ head ∷ []) (length items)
        → stretches start seen (heads ++ head ∷ []) (items ++ more) ≡ stretches start seen heads (take (start head) items) ++ seen head (drop (start head) items ++ more) ∷ []
    last_stretch heads head items more order =
        let before : AreInOrder start heads (start head) × (start head ≤ length items) = order_of_push heads head (length items) order in
        let count : length (take (start head) items) ≡ start head = length-take-le (start head) items before.1 in
        let parts : take (start head) items ++ (drop (start head) items ++ more) ≡ items ++ more =
        sym (append_assoc (take (start head) items) (drop (start head) items) more) ∙ ap (λ all. all ++ more) (take-append-drop (start head) items) in
        ap (stretches start seen (heads ++ head ∷ [])) (sym parts)
        ∙ stretches_pushed heads head (take (start head) items) (drop (start head) items ++ more) (subst (AreInOrder start heads) (sym count) before.0) (sym count)
