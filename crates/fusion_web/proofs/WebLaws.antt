-- A node more in a web.
use Rattle.fusion_web.proofs.Names.{◌≡◌, ℕ, ◌+◌, ◌*◌, ◌/◌, ◌%◌, ◌<◌, List, [], ◌∷◌, ◌++◌, Option, length, map, take, drop, sym, ap, subst, ◌∙◌, arith, append-nil, div-mul-add, mod-mul-add, get_or_append_left, map_push, drop_all, take_all, length-map, WebEntries, IsEntry, IsWeb, entry_at, no_entry, count_of, most_nodes, AreDistinct, ring_of, key_of, entry_of, node_at, no_node, next_of, with_next, web_of, ring_at, key_at, next_at, AreLinked, IsLinkedWeb, Node, Side, Row, Into}
use Rattle.fusion_web.proofs.RingLaws.{ringed_agrees}
use Rattle.fusion_web.proofs.EntryLaws.{web_more}
use Rattle.fusion_web.proofs.NodeLaws.{seen}

-- what is written back whole
pub written : {A : Type 0} (n : ℕ) (xs ys : List A) → length xs ≡ n → length ys ≡ n → take n (xs ++ drop (length xs) ys) ≡ xs
written n xs ys count other = ap (λ zs. take n (xs ++ zs)) (drop_all (length xs) ys (omega arith)) ∙ ap (take n) (append-nil xs) ∙ take_all n xs (omega arith)

-- pairs with one number are the same
pub pair_apart : (i j i' j' n : ℕ) → j < n → j' < n → i * n + j ≡ i' * n + j' → (i ≡ i') × (j ≡ j')
pair_apart i j i' j' n inside inside' same = (
  sym (div-mul-add i n j inside) ∙ ap (λ a. a / n) same ∙ div-mul-add i' n j' inside',
  sym (mod-mul-add i n j inside) ∙ ap (λ a. a % n) same ∙ mod-mul-add i' n j' inside',
)

-- entries of one ring have different keys
pub distinct : (web : WebEntries) → IsWeb web → (side : Side)
    → AreDistinct (λ r. ring_of side web.simples (entry_at web.entries r)) (λ r. key_of side web.simples (entry_at web.entries r)) (length web.entries)
distinct web is Row p q p_below q_below ring key =
    let pair =
    pair_apart (entry_at web.entries p).i (entry_at web.entries p).j (entry_at web.entries q).i (entry_at web.entries q).j web.simples (is.each p p_below).j_below (is.each q q_below).j_below ring in
    is.apart p q p_below q_below pair.0 pair.1 key
distinct web is Into p q p_below q_below ring key =
    let pair =
    pair_apart (entry_at web.entries p).i (entry_at web.entries p).j (entry_at web.entries q).i (entry_at web.entries q).j web.simples (is.each p p_below).j_below (is.each q q_below).j_below key in
    is.apart p q p_below q_below pair.0 pair.1 ring

-- the entries of some nodes, node by node
pub each_node : (n : ℕ) (nodes : List Node) → IsWeb (web_of n nodes) → (p : ℕ) → p < length nodes → IsEntry n (entry_of (node_at nodes p))
each_node n nodes is p inside = subst (IsEntry n) (seen nodes p inside) (is.each p (omega (arith, length-map nodes entry_of, inside)))

module _ (n : ℕ) where
  -- nodes with the same entries and links
  pub linked_same : (side : Side) (old new : List Node) (m : ℕ) (lasts : List (Option ℕ)) → map entry_of new ≡ map entry_of old
      → ((p : ℕ) → next_at side new p ≡ next_at side old p) → AreLinked side n old m lasts → AreLinked side n new m lasts
  linked_same side old new m lasts entries links is =
      ringed_agrees (ring_at side n old) (ring_at side n new) (key_at side n old) (key_at side n new) (next_at side old) (next_at side new) m
      (λ r below. ap (λ es. ring_of side n (entry_at es r)) (sym entries)) (λ r below. ap (λ es. key_of side n (entry_at es r)) (sym entries)) (λ r below. sym (links r)) lasts is

  -- nodes with one more that isn't linked yet
  pub linked_front : (side : Side) (nodes : List Node) (node : Node) (lasts : List (Option ℕ)) → AreLinked side n nodes (length nodes) lasts
      → AreLinked side n (nodes ++ node ∷ []) (length nodes) lasts
  linked_front side nodes node lasts is =
      let entry : (r : ℕ) → r < length nodes → entry_at (map entry_of nodes) r ≡ entry_at (map entry_of (nodes ++ node ∷ [])) r =
      λ r below.
      sym (get_or_append_left (map entry_of nodes) (entry_of node ∷ []) no_entry r (omega (arith, length-map nodes entry_of)))
      ∙ ap (λ es. entry_at es r) (sym (map_push entry_of nodes node)) in
      ringed_agrees (ring_at side n nodes) (ring_at side n (nodes ++ node ∷ [])) (key_at side n nodes) (key_at side n (nodes ++ node ∷ [])) (next_at side nodes)
      (next_at side (nodes ++ node ∷ [])) (length nodes) (λ r below. ap (ring_of side n) (entry r below)) (λ r below. ap (key_of side n) (entry r below))
      (λ r below. ap (next_of side) (sym (get_or_append_left nodes (node ∷ []) no_node r below))) lasts is

-- a node that comes to a web
module _ (n : ℕ) (nodes : List Node) (node : Node) (is : IsWeb (web_of n nodes)) (entry : IsEntry n (entry_of node)) (new : count_of (web_of n nodes) node.i node.j node.k ≡ 0)
    (room : length nodes < most_nodes) where
  pub web_pushed : (now : List Node) → now ≡ nodes ++ node ∷ [] → IsWeb (web_of n now)
  web_pushed now same =
      subst (λ es. IsWeb (record { simples = n; entries = es })) (sym (ap (map entry_of) same ∙ map_push entry_of nodes node))
      (web_more (web_of n nodes) (entry_of node) is entry new (omega (arith, room, length-map nodes entry_of)))

-- the nodes before it are linked as they were
pub still_linked : (n : ℕ) (side : Side) (nodes now : List Node) (node : Node) (place : ℕ) (lasts lasts_now : List (Option ℕ)) → AreLinked side n nodes (length nodes) lasts
    → now ≡ nodes ++ node ∷ [] → place ≡ length nodes → lasts_now ≡ lasts → AreLinked side n now place lasts_now
still_linked n side nodes now node place lasts lasts_now is same here lasts_same =
    subst (λ ns. AreLinked side n ns place lasts_now) (sym same)
    (subst (λ m. AreLinked side n (nodes ++ node ∷ []) m lasts_now) (sym here)
    (subst (λ ls. AreLinked side n (nodes ++ node ∷ []) (length nodes) ls) (sym lasts_same) (linked_front n side nodes node lasts is)))

-- nodes of which all but some links are the same
module _ (n : ℕ) (old now : List Node) (same : map entry_of now ≡ map entry_of old) where
  pub web_same : IsWeb (web_of n old) → IsWeb (web_of n now)
  web_same is = subst (λ es. IsWeb (record { simples = n; entries = es })) (sym same) is

  pub count_same : length now ≡ length old
  count_same = sym (length-map now entry_of) ∙ ap length same ∙ length-map old entry_of

-- of nodes of which only the links in the rings of pairs are different, those in the rings of results are the same, and the other way round
pub intos_same : (a b : Node) → with_next Row a 0 ≡ with_next Row b 0 → next_of Into a ≡ next_of Into b
intos_same a b same = ap (λ (c : Node). c.next_into) same

pub rows_same : (a b : Node) → with_next Into a 0 ≡ with_next Into b 0 → next_of Row a ≡ next_of Row b
rows_same a b same = ap (λ (c : Node). c.next_row) same

pub distinct_nodes : (n : ℕ) (nodes : List Node) (place : ℕ) → IsWeb (web_of n nodes) → place + 1 ≡ length nodes → (side : Side)
    → AreDistinct (ring_at side n nodes) (key_at side n nodes) (place + 1)
distinct_nodes n nodes place is last side =
    subst (λ m. AreDistinct (ring_at side n nodes) (key_at side n nodes) m) (length-map nodes entry_of ∙ sym last) (distinct (web_of n nodes) is side)

-- what is written back is linked
pub linked_as_written : (n : ℕ) {nodes nodes' : List Node} {rows rows' intos intos' : List (Option ℕ)} → nodes' ≡ nodes → rows' ≡ rows → intos' ≡ intos
    → IsLinkedWeb n nodes rows intos → IsLinkedWeb n nodes' rows' intos'
linked_as_written n {nodes} {nodes'} {rows} {rows'} {intos} {intos'} first second third is =
    subst (λ ns. IsLinkedWeb n ns rows' intos') (sym first)
    (subst (λ ls. IsLinkedWeb n nodes ls intos') (sym second) (subst (λ ls. IsLinkedWeb n nodes rows ls) (sym third) is))
