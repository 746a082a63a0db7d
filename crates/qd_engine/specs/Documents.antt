-- What the document of a command says: its table, its exponents, and the rows that it gives.
use Rattle.std.specs.Prelude.{ℕ, List, [], Option, None, unwrap_or}
use Rattle.cyclotomic.specs.Conductors.{least_conductor}
use Rattle.group_table.specs.Group.{Table}
use Rattle.cochain.specs.Cochain.{Cochain, cochain_of}
use Rattle.twist_lift.specs.Laws.{root_order}
use Rattle.qd_text.specs.Tokens.{tokens}
use Rattle.qd_doc.specs.Contents.{document_of}
use Rattle.qd_doc.specs.declared.document.Document.{Document}
use Rattle.qd_doc.specs.declared.document.Given.{Given}
use Rattle.qd_doc.specs.declared.document.Form.{Form}
use Rattle.named_cocycles.specs.Makers.{made_cocycle}
use Rattle.named_cocycles.specs.Samples.{sample_cocycle}
use Rattle.qd_engine.specs.Words.{form_of}
use Rattle.qd_engine.specs.declared.command.Input.{Input}
use Rattle.qd_engine.specs.declared.command.Input.TheVariants.{Read, Made, Sampled}
use Rattle.qd_engine.specs.declared.command.Command.{Command}

-- the document of a cocycle, without rows
abbrev pub bare_document : Cochain → Document
bare_document w = record {
  order = w.group.order;
  table = w.group.entries;
  roots = w.roots;
  exponents = w.exponents;
  characters = None;
}

-- the document that the input spells, of a form; or that of a cocycle that is made
abbrev pub document_for : Input → Form → List ℕ → Document
document_for Read form bytes = document_of form (tokens bytes)
document_for (Made maker) form bytes = bare_document (made_cocycle maker)
document_for (Sampled s) form bytes = bare_document (sample_cocycle s)

-- the document that a command is about, of the form that it reads
abbrev pub document_in : Command → List ℕ → Document
document_in command bytes = document_for command.input (form_of command) bytes

abbrev pub table_of : Document → Table
table_of document = record { order = document.order; entries = document.table }

abbrev pub exponents_of : Document → Cochain
exponents_of document = cochain_of (table_of document) document.roots document.exponents

-- the rows that a document gives, where it gives some; else no blocks, of which no command reports
abbrev pub given_or_none : Option Given → Given
given_or_none characters = unwrap_or characters (record { conductor = 0; blocks = [] })

abbrev pub given_in : Document → Given
given_in document = given_or_none document.characters

-- the conductor: the least in the table that is a multiple of the number of roots times the exponent of the group; 0 where there is none
unfoldable pub conductor_of : Cochain → ℕ
conductor_of w = unwrap_or (least_conductor (root_order w)) 0
