-- The classes of a cocycle's group, with what the program knows of each, and the conductor of its values.
use Rattle.std.specs.Prelude.{◌≡◌, ℕ, ◌%◌, true, Option, IfSome}
use Rattle.cochain.specs.Cochain.{Cochain, IsCocycle}
use Rattle.cyclotomic.specs.Conductors.{is_conductor}
use Rattle.twist_lift.specs.Laws.{root_order}
use Rattle.qd_steps.specs.ClassTwists.{class_twists}
use Rattle.qd_engine.specs.Documents.{conductor_of}
use Rattle.qd_engine.specs.Report.{class_ranks}
use Rattle.qd_engine.specs.declared.class_list.ClassList.{ClassList}

-- these are the classes of the group of a cocycle, with the twisted centraliser and the rank of each
pub record IsListOf (w : Cochain) (list : ClassList) : Type 0 where
  pub cocycle : IsCocycle w
  pub classes : list.classes ≡ w.group
  pub twists : list.twists ≡ class_twists w
  pub ranks : list.ranks ≡ class_ranks w

-- the same of a list that may not be made yet
abbrev pub IsKnownOf : Cochain → Option ClassList → Type 0
IsKnownOf w known = IfSome known (IsListOf w)

-- k is the conductor of the values of a cocycle, and a multiple of the number of its roots times the exponent of its group
pub record IsNeeded (w : Cochain) (k : ℕ) : Type 0 where
  pub conductor : is_conductor k ≡ true
  pub multiple : k % root_order w ≡ 0
  pub needed : k ≡ conductor_of w
