-- The rows of values of a command, by their source.
use Rattle.std.specs.Prelude.{ℕ, List, [], Option, Some, None, IsSome, ⊤}
use Rattle.cochain.specs.Cochain.{Cochain}
use Rattle.prime_field.specs.declared.mod_ring.ModRing.{ModRing}
use Rattle.qd_doc.specs.Blocks.{Block}
use Rattle.qd_doc.specs.declared.document.Given.{Given}
use Rattle.qd_steps.specs.ByModulus.{field_of, lifted_blocks}
use Rattle.qd_engine.specs.Documents.{conductor_of}
use Rattle.qd_engine.specs.declared.command.RowSource.{RowSource}
use Rattle.qd_engine.specs.declared.command.RowSource.TheVariants.{Stated, Lifted}
use Rattle.qd_engine.specs.declared.command.RowReport.{RowReport}
use Rattle.qd_engine.specs.declared.command.Input.{Input}
use Rattle.qd_engine.specs.declared.command.Input.TheVariants.{Read, Made, Sampled}
use Rattle.qd_engine.specs.declared.command.Command.{Command}

-- the field modulo q that the rows of a cocycle are lifted by, where there is one
abbrev pub field_for : ℕ → Cochain → Option ModRing
field_for q w = field_of q (conductor_of w)

-- the rows that are lifted by a field
abbrev pub lifted_by : Cochain → Option ModRing → List Block
lifted_by w None = []
lifted_by w (Some ring) = lifted_blocks ring w

-- the rows of a source, as blocks: those that the document states, or those that are lifted modulo q
abbrev pub blocks_of : RowSource → Cochain → Given → List Block
blocks_of Stated w given = given.blocks
blocks_of (Lifted q) w given = lifted_by w (field_for q w)

-- a document has what a source of rows needs: rows, where these are stated
abbrev pub HasRowsFor : RowSource → Option Given → Type 0
HasRowsFor Stated characters = IsSome characters
HasRowsFor (Lifted q) characters = ⊤

-- the same of a command, where it reports on rows
abbrev pub HasRowsOf : Option RowReport → Option Given → Type 0
HasRowsOf None characters = ⊤
HasRowsOf (Some report) characters = HasRowsFor report.source characters

-- what reads nothing needs no stated rows
abbrev pub IsServedBy : Input → Option RowReport → Type 0
IsServedBy Read rows = ⊤
IsServedBy (Made maker) rows = HasRowsOf rows None
IsServedBy (Sampled s) rows = HasRowsOf rows None

abbrev pub IsServed : Command → Type 0
IsServed command = IsServedBy command.input command.rows
