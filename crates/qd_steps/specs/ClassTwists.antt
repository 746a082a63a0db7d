-- The twisted centralisers of all classes of a cocycle, and rows over them.
use Rattle.std.specs.Prelude.{ℕ, List, length, map, slice_index_or, Option}
use Rattle.std.specs.List.{range_with_len}
use Rattle.std.specs.Option.{option_and_then}
use Rattle.scan.specs.First.{first}
use Rattle.cochain.specs.Cochain.{Cochain}
use Rattle.classes.specs.Conjugacy.{representatives}
use Rattle.twisted.specs.Twist.{TwistedSubgroup}
use Rattle.prime_field.specs.declared.mod_ring.ModRing.{ModRing}
use Rattle.table_check.specs.Characters.{RowsOver}
use Rattle.transport.specs.Simples.{no_table}
use Rattle.twist_lift.specs.TwistRows.{twist_fault, twist_rows}
use Rattle.qd_doc.specs.Blocks.{Block, block_at}
use Rattle.data_print.specs.declared.cause.Cause.{Cause}
use Rattle.qd_steps.specs.Tables.{class_twist}
use Rattle.qd_steps.specs.ByModulus.{cause_of_lift}

-- the twisted centraliser of the representative of each class, in order
unfoldable pub class_twists : Cochain → List TwistedSubgroup
class_twists w = map (class_twist w) (range_with_len 0 (length (representatives w.group)))

module _ (twists : List TwistedSubgroup) where
  -- the one with the number c
  abbrev pub twist_in : ℕ → TwistedSubgroup
  twist_in c = slice_index_or twists c no_table.over

  -- the rows of the block with the number c, over it
  abbrev pub stated_over : List Block → ℕ → RowsOver
  stated_over blocks c = record { over = twist_in c; rows = (block_at blocks c).rows }

  -- those of all blocks, in order
  abbrev pub all_stated : List Block → List RowsOver
  all_stated blocks = map (stated_over blocks) (range_with_len 0 (length twists))

  -- its lifted rows
  abbrev pub lifted_over : ModRing → ℕ → RowsOver
  lifted_over ring c = record { over = twist_in c; rows = twist_rows ring (twist_in c) }

  -- those of all, in order
  abbrev pub all_lifted : ModRing → List RowsOver
  all_lifted ring = map (lifted_over ring) (range_with_len 0 (length twists))

  -- why it has none
  abbrev pub lift_cause_over : ModRing → ℕ → Option Cause
  lift_cause_over ring c = option_and_then (cause_of_lift (twist_in c).at) (twist_fault ring (twist_in c))

  -- why the first without lifted rows has none
  abbrev pub first_lift_cause : ModRing → Option Cause
  first_lift_cause ring = first (length twists) (lift_cause_over ring)
