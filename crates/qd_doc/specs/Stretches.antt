-- A list cut into stretches.
use Rattle.std.specs.Prelude.{ℕ, ◌+◌, ◌-◌, ◌≤◌, List, [], ◌∷◌, length, take, drop, slice_index}

module _ {H : Type 0} (start : H → ℕ) where
  -- where the first stretch starts, or the end where there is none
  abbrev pub first_start : List H → ℕ → ℕ
  first_start [] end = end
  first_start (head ∷ heads) end = start head

  -- each stretch starts no later than the next one, and the last one no later than the end
  abbrev pub AreInOrder : List H → ℕ → Type 0
  AreInOrder [] end = Unit {0}
  AreInOrder (head ∷ heads) end = (start head ≤ first_start heads end) × AreInOrder heads end

  -- each head with the items from where it starts up to where the next one does, or up to the end
  abbrev pub stretches : {A B : Type 0} → (H → List A → B) → List H → List A → List B
  stretches seen [] items = []
  stretches seen (head ∷ heads) items =
      seen head (take (first_start heads (length items) - start head) (drop (start head) items)) ∷ stretches seen heads items

-- the stretch at a place
abbrev pub item_stretch : {A : Type 0} → List ℕ → List A → ℕ → List A
item_stretch starts items i =
    let end = first_start (λ start. start) (drop (i + 1) starts) (length items) in
    take (end - slice_index starts i) (drop (slice_index starts i) items)
