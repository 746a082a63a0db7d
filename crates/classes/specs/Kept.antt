-- What is kept of the classes of a group.
use Rattle.std.specs.Prelude.{◌≡◌, ℕ, ◌<◌, List, length, slice_index, slice_index_or, map}
use Rattle.group_table.specs.Group.{Table, IsGroup, IsSmall}
use Rattle.classes.specs.Conjugacy.{representatives, class_of, members_of, centraliser_of}
use Rattle.classes.specs.Sweep.{reach_of}
use Rattle.classes.specs.declared.class_table.Class.{Class}
use Rattle.classes.specs.declared.sweep.Reach.{Reach}

-- the class of a
abbrev pub class_at : Table → ℕ → Class
class_at t a = record { representative = a; members = members_of t a; centraliser = centraliser_of t a }

-- how each element is reached
pub record ListsReaches (t : Table) (reaches : List Reach) : Type 0 where
  pub count : length reaches ≡ t.order
  pub each : (g : ℕ) (d : Reach) → g < t.order → slice_index_or reaches g d ≡ reach_of t g

-- the number of the class of each element
pub record ListsNumbers (t : Table) (numbers : List ℕ) : Type 0 where
  pub count : length numbers ≡ t.order
  pub each : (g : ℕ) → g < t.order → slice_index numbers g ≡ class_of t g

-- the classes of the group, with what is looked up by element
pub record IsClassTable (t : Table) (classes : List Class) (numbers : List ℕ) (reaches : List Reach) : Type 0 where
  pub group : IsGroup t
  pub small : IsSmall t.order
  pub classes_are : classes ≡ map (class_at t) (representatives t)
  pub numbers_are : ListsNumbers t numbers
  pub reaches_are : ListsReaches t reaches
