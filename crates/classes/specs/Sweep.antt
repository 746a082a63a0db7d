-- How elements are reached from the elements below a bound.
use Rattle.std.specs.Prelude.{ℕ, Option}
use Rattle.std.specs.Option.{option_map}
use Rattle.scan.specs.First.{first}
use Rattle.group_table.specs.Group.{Table}
use Rattle.classes.specs.Conjugacy.{least_transporter, representative_of, transporter_of}
use Rattle.classes.specs.declared.sweep.Reach.{Reach}

-- g is reached from a, by k
abbrev pub reach : ℕ → ℕ → Reach
reach a k = record { representative = a; transporter = k }

-- how g is reached from the least element below i from which it is
abbrev pub reach_below : Table → ℕ → ℕ → Option Reach
reach_below t i g = first i (λ a. option_map (reach a) (least_transporter t a g))

-- how g is reached from the representative of its class
abbrev pub reach_of : Table → ℕ → Reach
reach_of t g = reach (representative_of t g) (transporter_of t g)
