-- What holds of the rows of a twist by a modulus.
use Rattle.std.specs.Prelude.{◌≡◌, ◌≢◌, ℕ, ◌*◌, ◌%◌, ◌<◌, length, true, Some, None}
use Rattle.prime_field.specs.declared.mod_ring.ModRing.{ModRing}
use Rattle.twisted.specs.Twist.{TwistedSubgroup, size}
use Rattle.twisted.specs.Regular.{rank}
use Rattle.orders.specs.Order.{exponent_of}
use Rattle.group_table.specs.Group.{product, identity_of}
use Rattle.cochain.specs.Cochain.{Cochain, IsCocycle}
use Rattle.slant.specs.Twists.{twist_of}
use Rattle.centre_powers.specs.CentralPowers.{Serves}
use Rattle.qd_ring.specs.RowLists.{row_at}
use Rattle.table_check.specs.Characters.{Characters, characters_of}
use Rattle.table_check.specs.Check.{table_miss}
use Rattle.table_check.specs.Answers.{fit_at}
use Rattle.table_check.specs.declared.miss.Clause.TheVariants.{Count}
use Rattle.table_check.specs.declared.miss.Miss.{Miss}
use Rattle.root_tables.specs.RootRows.{AreRootRows}
use Rattle.twist_lift.specs.TwistRows.{twist_fault, twist_rows}

-- N E: the number of roots of a cocycle times the exponent of its group
abbrev pub root_order : Cochain → ℕ
root_order w = w.roots * exponent_of w.group.order (product w.group) (identity_of w.group)

-- a field over the order of the group of a cocycle, whose conductor N E divides, serves the twisted centraliser of each element
abbrev pub ServesClasses : ModRing → Type 0
ServesClasses ring =
    (w : Cochain) → IsCocycle w → w.group.order < ring.q → ring.conductor % root_order w ≡ 0 → (a : ℕ) → a < w.group.order → Serves ring (twist_of w a)

-- the rows as a table
abbrev pub twist_table : (ring : ModRing) → TwistedSubgroup → Characters ring.conductor
twist_table ring s = characters_of ring.conductor (twist_rows ring s)

-- where no candidate fails there are as many rows as the rank, each with a value for each place that is a sum of as many roots of unity as
-- its degree says
abbrev pub TwistRowsAreRoots : ModRing → Type 0
TwistRowsAreRoots ring =
    (s : TwistedSubgroup) → Serves ring s → twist_fault ring s ≡ None
    → (length (twist_rows ring s) ≡ rank s)
    × ((i : ℕ) → i < length (twist_rows ring s) → length (row_at (twist_rows ring s) i) ≡ size s)
    × AreRootRows s (twist_table ring s)

-- and the check of their table can miss only an equation, a twist or the vacuum: neither their number nor for a side that overflows
abbrev pub TwistRowsMissClauses : ModRing → Type 0
TwistRowsMissClauses ring =
    (s : TwistedSubgroup) → Serves ring s → twist_fault ring s ≡ None
    → (miss : Miss) → table_miss s (twist_table ring s) ≡ Some miss → (fit_at s (twist_table ring s) miss ≡ true) × (miss.clause ≢ Count)
