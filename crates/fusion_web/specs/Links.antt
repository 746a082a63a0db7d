-- The two rings in which each entry of a web stands: that of its pair, by k, and that of its result, by i, then j.
use Rattle.std.specs.Prelude.{◌≡◌, ℕ, ◌*◌, ◌+◌, Option, MatchOption, List, length, map, slice_index_or}
use Rattle.fusion_web.specs.Entries.{Entry, WebEntries, IsWeb, entry_at}
use Rattle.fusion_web.specs.Rings.{IsNext, IsFirst, IsEmpty, IsRinged}
use Rattle.fusion_web.specs.declared.node.Node.{Node}
use Rattle.fusion_web.specs.declared.side.Side.{Side}
use Rattle.fusion_web.specs.declared.side.Side.TheVariants.{Row, Into}

-- the number of the pair of an entry, row after row
abbrev pub pair_number : ℕ → Entry → ℕ
pair_number n e = e.i * n + e.j

-- the number of the ring in which an entry stands
abbrev pub ring_of : Side → ℕ → Entry → ℕ
ring_of Row n e = pair_number n e
ring_of Into n e = e.k

-- that by which it stands there
abbrev pub key_of : Side → ℕ → Entry → ℕ
key_of Row n e = e.k
key_of Into n e = pair_number n e

module _ (side : Side) (web : WebEntries) where
  -- the entry at q follows that at p in its ring
  abbrev pub Follows : ℕ → ℕ → Type 0
  Follows p q =
      IsNext (λ r. ring_of side web.simples (entry_at web.entries r)) (λ r. key_of side web.simples (entry_at web.entries r)) (length web.entries) p q

  -- a ring has no entry, or that at this place is its first
  abbrev pub IsHead : ℕ → Option ℕ → Type 0
  IsHead c head =
      let ring : ℕ → ℕ = λ r. ring_of side web.simples (entry_at web.entries r) in
      let key : ℕ → ℕ = λ r. key_of side web.simples (entry_at web.entries r) in
      MatchOption head (IsEmpty ring key (length web.entries) c) (λ p. IsFirst ring key (length web.entries) c p)

-- the entry of a node
abbrev pub entry_of : Node → Entry
entry_of node = record { i = node.i; j = node.j; k = node.k; count = node.count }

abbrev pub no_node : Node
no_node = record { i = 0; j = 0; k = 0; count = 0; next_row = 0; next_into = 0 }

-- the node at a place
abbrev pub node_at : List Node → ℕ → Node
node_at nodes p = slice_index_or nodes p no_node

-- the link of a node in its ring
abbrev pub next_of : Side → Node → ℕ
next_of Row node = node.next_row
next_of Into node = node.next_into

-- a node with another link
abbrev pub with_next : Side → Node → ℕ → Node
with_next Row node next = record node { next_row = next }
with_next Into node next = record node { next_into = next }

-- the web of some nodes
abbrev pub web_of : ℕ → List Node → WebEntries
web_of n nodes = record { simples = n; entries = map entry_of nodes }

-- the rings and keys of the places of some nodes
abbrev pub ring_at : Side → ℕ → List Node → ℕ → ℕ
ring_at side n nodes p = ring_of side n (entry_at (map entry_of nodes) p)

abbrev pub key_at : Side → ℕ → List Node → ℕ → ℕ
key_at side n nodes p = key_of side n (entry_at (map entry_of nodes) p)

-- and to which places they lead
abbrev pub next_at : Side → List Node → ℕ → ℕ
next_at side nodes p = next_of side (node_at nodes p)

-- the first m nodes are linked in their rings on this side, whose last places are known
abbrev pub AreLinked : Side → ℕ → List Node → ℕ → List (Option ℕ) → Type 0
AreLinked side n nodes m lasts = IsRinged (ring_at side n nodes) (key_at side n nodes) m (next_at side nodes) lasts

-- a web whose nodes are linked in both rings
pub record IsLinkedWeb (n : ℕ) (nodes : List Node) (row_lasts into_lasts : List (Option ℕ)) : Type 0 where
  pub web : IsWeb (web_of n nodes)
  pub rows : AreLinked Row n nodes (length nodes) row_lasts
  pub row_count : length row_lasts ≡ n * n
  pub intos : AreLinked Into n nodes (length nodes) into_lasts
  pub into_count : length into_lasts ≡ n
