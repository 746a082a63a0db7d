-- The inputs that the program accepts, in plain facts.
use Rattle.std.specs.Prelude.{◌≡◌, ℕ, ◌<◌, ◌≤◌, List, length, Some}
use Rattle.classes.specs.Conjugacy.{representatives}
use Rattle.cochain.specs.Cochain.{Cochain}
use Rattle.qd_io.specs.declared.reading.TheConstants.{INPUT_LIMIT}
use Rattle.qd_doc.specs.Blocks.{Block}
use Rattle.qd_doc.specs.declared.document.Given.{Given}
use Rattle.table_check.specs.Fitting.{SidesFit}
use Rattle.qd_steps.specs.Tables.{class_twist, class_table}
use Rattle.data_print.specs.declared.cause.Cause.{Cause}
use Rattle.qd_engine.specs.Words.{command_of}
use Rattle.qd_engine.specs.Documents.{document_in, conductor_of}
use Rattle.qd_engine.specs.Tests.{Late}
use Rattle.qd_engine.specs.Causes.{OfRows, IsAccepted}
use Rattle.qd_engine.specs.declared.command.RowSource.TheVariants.{Stated}
use Rattle.qd_engine.specs.declared.command.RowReport.{RowReport}
use Rattle.qd_engine.specs.declared.command.Command.{Command}

-- no side of the check of a class's table overflows
abbrev pub AllFit : Cochain → ℕ → List Block → Type 0
AllFit w k blocks = (c : ℕ) → c < length (representatives w.group) → SidesFit (class_twist w c) (class_table k blocks c)

-- the same for a source of rows. Of rows that are lifted it need not be said, since nothing overflows
abbrev pub SourceFits : Cochain → Given → RowReport → Type 0
SourceFits w given report = report.source ≡ Stated → AllFit w (conductor_of w) given.blocks

-- the words are a command, and the input is accepted by it; for one with stated rows, the sides of their tables fit; and nothing
-- comes late: the sums of S fit
pub record IsAcceptable (words : List (List ℕ)) (bytes : List ℕ) : Type 0 where
  pub command : Command
  pub asked : command_of words ≡ Some command
  pub short : length bytes ≤ INPUT_LIMIT
  pub accepted : IsAccepted command bytes
  pub fits : OfRows command (document_in command bytes) SourceFits
  pub sums : (cause : Cause) → Late command (document_in command bytes) cause → ⊥
