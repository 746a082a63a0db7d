-- What holds of each table that breaks no law, and of lists of numbers.
use Rattle.std.specs.Prelude.{◌≡◌, ℕ, ◌*◌, ◌<◌, Bool, true, ◌↔◌, Contains, length, slice_index}
use Rattle.orders.specs.Group.{IsGroupBelow}
use Rattle.group_table.specs.Numbers.{passing_below}
use Rattle.group_table.specs.Group.{Table, product, identity_of, IsGroup}

-- its elements are a group whose elements are the numbers below its order
abbrev pub GroupOfNumbers : Type 0
GroupOfNumbers = (t : Table) → IsGroup t → IsGroupBelow t.order (product t) (identity_of t)

-- a table is lawful exactly where it is square and its products are a group on the numbers below its order, with some identity
abbrev pub GroupExactly : Type 0
GroupExactly =
    (t : Table) → IsGroup t ↔ ((length t.entries ≡ t.order * t.order) × ((unit : ℕ) × IsGroupBelow t.order (product t) unit))

-- a number is in the list exactly where it is below n and passes
abbrev pub PassingExactly : Type 0
PassingExactly = (n i : ℕ) (test : ℕ → Bool) → Contains (passing_below n test) i ↔ ((i < n) × (test i ≡ true))

-- the list ascends
abbrev pub PassingAscends : Type 0
PassingAscends =
    (n i j : ℕ) (test : ℕ → Bool) → i < j → j < length (passing_below n test) →
    slice_index (passing_below n test) i < slice_index (passing_below n test) j
