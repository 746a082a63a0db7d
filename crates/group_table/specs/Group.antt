-- A group by its multiplication table (textbook), and the first law that a table breaks.
use Rattle.std.specs.Prelude.{◌≡◌, ℕ, ◌+◌, ◌*◌, ◌<◌, ◌≤◌, Bool, ◌&&◌, ◌==◌, nat_lt, List, length, slice_index, Option, Some, None, is_some, unwrap_or, if◌then◌else◌}
use Rattle.scan.specs.First.{option_or, first, all_below}
use Rattle.group_table.specs.declared.fault.GroupFault.{GroupFault}
use Rattle.group_table.specs.declared.fault.GroupFault.TheVariants.{Entry, NoIdentity, NoInverse, NotAssociative}

-- a square table over the numbers below the order, row after row
pub record Table : Type 0 where
  pub order : ℕ
  pub entries : List ℕ

-- the table of an order with these entries
abbrev pub table_with : ℕ → List ℕ → Table
table_with n entries = record { order = n; entries = entries }

-- the product of g and h is what stands in row g at place h
abbrev pub product : Table → ℕ → ℕ → ℕ
product t g h = slice_index t.entries (g * t.order + h)

-- g h = h g, and the test of it
abbrev pub Commute : Table → ℕ → ℕ → Type 0
Commute t g h = product t g h ≡ product t h g

abbrev pub commute : Table → ℕ → ℕ → Bool
commute t g h = product t g h == product t h g

-- First law: every entry is an element.
abbrev pub entry_fault : Table → Option GroupFault
entry_fault t = first t.order (λ g. first t.order (λ h. if nat_lt (product t g h) t.order then None else Some (Entry g h)))

-- Second law: some e has e h = h e = h for every h. The identity is the least such e.
abbrev pub is_identity : Table → ℕ → Bool
is_identity t e = all_below t.order (λ h. (product t e h == h) && (product t h e == h))

abbrev pub two_sided_identity : Table → Option ℕ
two_sided_identity t = first t.order (λ e. if is_identity t e then Some e else None)

abbrev pub identity_of : Table → ℕ
identity_of t = unwrap_or (two_sided_identity t) 0

abbrev pub identity_fault : Table → Option GroupFault
identity_fault t = if is_some (two_sided_identity t) then None else Some NoIdentity

-- Third law: every g has some h with g h = e. The inverse is the least such h.
abbrev pub inverse_of : Table → ℕ → Option ℕ
inverse_of t g = first t.order (λ h. if product t g h == identity_of t then Some h else None)

abbrev pub inverse : Table → ℕ → ℕ
inverse t g = unwrap_or (inverse_of t g) 0

abbrev pub inverse_fault : Table → Option GroupFault
inverse_fault t = first t.order (λ g. if is_some (inverse_of t g) then None else Some (NoInverse g))

-- Fourth law: (g h) k = g (h k).
abbrev pub associates : Table → ℕ → ℕ → ℕ → Bool
associates t g h k = product t (product t g h) k == product t g (product t h k)

abbrev pub associativity_fault_in : Table → ℕ → ℕ → Option GroupFault
associativity_fault_in t g h = first t.order (λ k. if associates t g h k then None else Some (NotAssociative g h k))

abbrev pub associativity_fault : Table → Option GroupFault
associativity_fault t = first t.order (λ g. first t.order (λ h. associativity_fault_in t g h))

-- the first law that fails, at its least place
unfoldable pub group_fault : Table → Option GroupFault
group_fault t = option_or (entry_fault t) (option_or (identity_fault t) (option_or (inverse_fault t) (associativity_fault t)))

-- a group: a square table that breaks no law
pub record IsGroup (t : Table) : Type 0 where
  pub square : length t.entries ≡ t.order * t.order
  pub lawful : group_fault t ≡ None

-- the orders that the program works with
pub record IsSmall (order : ℕ) : Type 0 where
  pub from_one : 1 ≤ order
  pub to_sixty : order ≤ 60

-- the inverses of the elements, in order
pub record ListsInverses (t : Table) (inverses : List ℕ) : Type 0 where
  pub count : length inverses ≡ t.order
  pub each : (g : ℕ) → g < t.order → inverse_of t g ≡ Some (slice_index inverses g)

-- what is kept beside the table of a group
pub record IsKept (t : Table) (identity : ℕ) (inverses : List ℕ) : Type 0 where
  pub group : IsGroup t
  pub small : IsSmall t.order
  pub identity_is : identity ≡ identity_of t
  pub inverses_are : ListsInverses t inverses
