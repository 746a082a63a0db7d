-- The kinds of natural numbers that the program tells apart.
use Rattle.std.specs.Prelude.{◌≡◌, ℕ, ◌≤◌, ◌<◌, true}
use Rattle.cyclotomic.specs.Conductors.{is_conductor}
use Rattle.qd_doc.specs.Kinds.{What, Natural, OrderNumber, RootsNumber, ElementBelow, ConductorNumber}
use Rattle.qd_doc.specs.declared.kind.Kind.{Kind}
use Rattle.qd_doc.specs.declared.kind.Kind.TheVariants.{Any, Order, Roots, Element, Conductor}

-- what may stand there
abbrev pub what_of : Kind → What
what_of Any = Natural
what_of Order = OrderNumber
what_of Roots = RootsNumber
what_of (Element n) = ElementBelow n
what_of Conductor = ConductorNumber

-- a number is of a kind
abbrev pub IsOf : Kind → ℕ → Type 0
IsOf Any n = Unit {0}
IsOf Order n = (1 ≤ n) × (n ≤ 60)
IsOf Roots n = (1 ≤ n) × (n ≤ 64)
IsOf (Element order) n = n < order
IsOf Conductor n = is_conductor n ≡ true
