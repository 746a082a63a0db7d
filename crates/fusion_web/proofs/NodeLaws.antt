-- Nodes with other links.
use Rattle.fusion_web.proofs.Names.{◌≡◌, ◌≢◌, ℕ, ◌+◌, ◌<◌, ◌≤◌, List, Option, Some, None, length, map, get_or, set, refl, sym, ap, subst, ◌∙◌, arith, length-set, get_or-set_other, get_or-set_same, get_or-map, Entry, entry_at, no_entry, IsRinged, AreDistinct, IsPlaceBefore, entry_of, node_at, no_node, ring_of, key_of, next_of, with_next, ring_at, key_at, next_at, AreLinked, Node, Side, Row, Into}
use Rattle.std.proofs.Math.Seq.{map-set_same}
use Rattle.fusion_web.proofs.RingLaws.{ringed_agrees, ringed_alone, ringed_last, ringed_between}

-- the entry of the node at a place
pub seen : (nodes : List Node) (p : ℕ) → p < length nodes → entry_at (map entry_of nodes) p ≡ entry_of (node_at nodes p)
seen nodes p inside = get_or-map entry_of nodes p no_node no_entry inside

same_entry : (side : Side) (node : Node) (next : ℕ) → entry_of (with_next side node next) ≡ entry_of node
same_entry Row node next = refl
same_entry Into node next = refl

new_link : (side : Side) (node : Node) (next : ℕ) → next_of side (with_next side node next) ≡ next
new_link Row node next = refl
new_link Into node next = refl

-- rings and keys as they are read
pub ring_seen : (side : Side) (n : ℕ) (nodes : List Node) (p c : ℕ) → p < length nodes → c ≡ ring_of side n (entry_of (node_at nodes p)) → c ≡ ring_at side n nodes p
ring_seen side n nodes p c inside is = is ∙ ap (ring_of side n) (sym (seen nodes p inside))

pub key_seen : (side : Side) (n : ℕ) (nodes : List Node) (p c : ℕ) → p < length nodes → c ≡ key_of side n (entry_of (node_at nodes p)) → c ≡ key_at side n nodes p
key_seen side n nodes p c inside is = is ∙ ap (key_of side n) (sym (seen nodes p inside))

module _ (side : Side) where
  -- the nodes with another link at p
  abbrev pub relinked : List Node → ℕ → ℕ → List Node
  relinked nodes p next = set nodes p (with_next side (node_at nodes p) next)

  pub entries_kept : (nodes : List Node) (p next : ℕ) → map entry_of (relinked nodes p next) ≡ map entry_of nodes
  entries_kept nodes p next = map-set_same entry_of nodes p (with_next side (node_at nodes p) next) no_node (same_entry side (node_at nodes p) next)

  next_here : (nodes : List Node) (p next : ℕ) → p < length nodes → next_at side (relinked nodes p next) p ≡ next
  next_here nodes p next inside =
      ap (next_of side) (get_or-set_same nodes p (with_next side (node_at nodes p) next) no_node inside) ∙ new_link side (node_at nodes p) next

  next_elsewhere : (nodes : List Node) (p next r : ℕ) → r ≢ p → next_at side (relinked nodes p next) r ≡ next_at side nodes r
  next_elsewhere nodes p next r other = ap (next_of side) (get_or-set_other nodes p r (with_next side (node_at nodes p) next) no_node other)

  module _ (n : ℕ) (nodes : List Node) (place : ℕ) (lasts : List (Option ℕ)) (last : place + 1 ≡ length nodes)
      (is : AreLinked side n nodes place lasts) (inside : ring_at side n nodes place < length lasts) where
    -- in the words of some entries, which are those of the nodes
    abbrev linked_over : List Entry → ℕ → List Node → List (Option ℕ) → Type 0
    linked_over entries m nodes lasts = IsRinged (λ p. ring_of side n (entry_at entries p)) (λ p. key_of side n (entry_at entries p)) m (next_at side nodes) lasts

    abbrev pub with_last : List (Option ℕ)
    with_last = set lasts (ring_at side n nodes place) (Some place)

    -- the last node leads to itself
    pub linked_alone : get_or lasts (ring_at side n nodes place) None ≡ None
        → AreLinked side n (relinked nodes place place) (length (relinked nodes place place)) with_last
    linked_alone none =
        let new = relinked nodes place place in
        let count : place + 1 ≡ length new = last ∙ sym (length-set nodes place (with_next side (node_at nodes place) place)) in
        let old =
        ringed_agrees (ring_at side n nodes) (ring_at side n nodes) (key_at side n nodes) (key_at side n nodes) (next_at side nodes) (next_at side new) place (λ r below. refl)
        (λ r below. refl) (λ r below. sym (next_elsewhere nodes place place r (omega arith))) lasts is in
        subst (λ m. AreLinked side n new m with_last) count
        (subst (λ entries. linked_over entries (place + 1) new with_last) (sym (entries_kept nodes place place))
        (ringed_alone (ring_at side n nodes) (key_at side n nodes) (next_at side new) place lasts inside none (next_here nodes place place (omega (arith, last))) old))

    -- the last node is put after `before`
    module _ (apart : AreDistinct (ring_at side n nodes) (key_at side n nodes) (place + 1)) (before end : ℕ)
        (at : IsPlaceBefore (ring_at side n nodes) (key_at side n nodes) place (next_at side nodes) before)
        (ends : get_or lasts (ring_at side n nodes place) None ≡ Some end) where
      abbrev once : List Node
      once = relinked nodes place (next_at side nodes before)

      abbrev pub twice : List Node
      twice = relinked once before place

      pub twice_is : (once' twice' : List Node) (after : ℕ) → after ≡ next_at side nodes before → once' ≡ relinked nodes place after → twice' ≡ relinked once' before place
          → twice' ≡ twice
      twice_is once' twice' after leads first second = second ∙ ap (λ ns. relinked ns before place) (first ∙ ap (relinked nodes place) leads)

      pub twice_entries : map entry_of twice ≡ map entry_of nodes
      twice_entries = entries_kept once before place ∙ entries_kept nodes place (next_at side nodes before)

      once_count : length once ≡ length nodes
      once_count = length-set nodes place (with_next side (node_at nodes place) (next_at side nodes before))

      count : place + 1 ≡ length twice
      count = last ∙ sym once_count ∙ sym (length-set once before (with_next side (node_at once before) place))

      same : map entry_of nodes ≡ map entry_of twice
      same = sym twice_entries

      at_new : next_at side twice place ≡ next_at side nodes before
      at_new = next_elsewhere once before place place (omega (arith, at.inside)) ∙ next_here nodes place (next_at side nodes before) (omega (arith, last))

      at_before : next_at side twice before ≡ place
      at_before = next_here once before place (omega (arith, at.inside, last, once_count))

      elsewhere : (r : ℕ) → r < place → (r ≡ before → ⊥) → next_at side twice r ≡ next_at side nodes r
      elsewhere r below other = next_elsewhere once before place r other ∙ next_elsewhere nodes place (next_at side nodes before) r (omega (arith, below))

      pub linked_last : key_at side n nodes end < key_at side n nodes place → AreLinked side n twice (length twice) with_last
      linked_last less =
          subst (λ m. AreLinked side n twice m with_last) count
          (subst (λ entries. linked_over entries (place + 1) twice with_last) same
          (ringed_last (ring_at side n nodes) (key_at side n nodes) (next_at side nodes) (next_at side twice) place before lasts is apart at at_new at_before elsewhere end inside ends less))

      pub linked_between : key_at side n nodes place ≤ key_at side n nodes end → AreLinked side n twice (length twice) lasts
      linked_between less =
          subst (λ m. AreLinked side n twice m lasts) count
          (subst (λ entries. linked_over entries (place + 1) twice lasts) same
          (ringed_between (ring_at side n nodes) (key_at side n nodes) (next_at side nodes) (next_at side twice) place before lasts is apart at at_new at_before elsewhere end inside ends less))
