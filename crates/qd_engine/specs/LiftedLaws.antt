-- What the commands whose rows are lifted from a modulus never answer, and how small their values are.
use Rattle.std.specs.Prelude.{◌≡◌, ℕ, ◌<◌, ◌≤◌, List, length, Some}
use Rattle.classes.specs.Conjugacy.{representatives}
use Rattle.cochain.specs.Cochain.{Cochain}
use Rattle.cyclotomic.specs.Fit.{value_size}
use Rattle.twisted.specs.Twist.{size}
use Rattle.qd_doc.specs.Blocks.{Block}
use Rattle.qd_steps.specs.Tables.{class_twist, class_table}
use Rattle.data_print.specs.declared.cause.Cause.{Cause}
use Rattle.data_print.specs.declared.cause.Cause.TheVariants.{Conductor, Shape, Count, Overflow}
use Rattle.qd_engine.specs.Documents.{document_in, exponents_of, conductor_of}
use Rattle.qd_engine.specs.Sources.{field_for, lifted_by}
use Rattle.qd_engine.specs.Causes.{Refuses, IsAccepted}
use Rattle.qd_engine.specs.declared.command.RowSource.TheVariants.{Lifted}
use Rattle.qd_engine.specs.declared.command.RowReport.{RowReport}
use Rattle.qd_engine.specs.declared.command.Command.{Command}

-- the command reports on rows that are lifted modulo q
pub record LiftsRows (command : Command) (q : ℕ) : Type 0 where
  pub report : RowReport
  pub reports : command.rows ≡ Some report
  pub source : report.source ≡ Lifted q

-- a cause that only stated rows have: another conductor, another shape, another number of rows, or an overflow
abbrev pub IsStatedCause : Cause → Type 0
IsStatedCause (Conductor stated needed) = Unit {0}
IsStatedCause (Shape fault) = Unit {0}
IsStatedCause (Count at rows rank) = Unit {0}
IsStatedCause (Overflow site) = Unit {0}
IsStatedCause cause = ⊥

-- a command with lifted rows refuses no input for such a cause, neither by a test nor late
abbrev pub LiftedCauses : Type 0
LiftedCauses =
    (command : Command) (q : ℕ) → LiftsRows command q
    → (bytes : List ℕ) (cause : Cause) → Refuses cause command bytes → IsStatedCause cause → ⊥

-- every value of the tables of the classes has a size of at most 7
abbrev pub ValuesAreSmall : Cochain → ℕ → List Block → Type 0
ValuesAreSmall w k blocks =
    (c : ℕ) → c < length (representatives w.group)
    → (i x : ℕ) → i < (class_table k blocks c).count → x < size (class_twist w c)
    → value_size ((class_table k blocks c).chi i x) ≤ 7

-- the same of the rows of a cocycle that are lifted modulo q
abbrev pub LiftedAreSmall : ℕ → Cochain → Type 0
LiftedAreSmall q w = ValuesAreSmall w (conductor_of w) (lifted_by w (field_for q w))

-- so are the values of the rows of a command with lifted rows, where it accepts the input
abbrev pub LiftedSizes : Type 0
LiftedSizes =
    (command : Command) (q : ℕ) → LiftsRows command q
    → (bytes : List ℕ) → IsAccepted command bytes → LiftedAreSmall q (exponents_of (document_in command bytes))
