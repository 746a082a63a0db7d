use Rattle.qd_doc.proofs.Names.{DocRefusal, Document, Err, Form, Gives, IfOk, IsInRange, List, Memory, Ok, Parses, Result, Section, Syntax, length, read_document, stop_of, subst, sym, tokens, ℕ, ◌≡◌}
use Rattle.qd_doc.specs.declared.refusal.DocRefusal.TheVariants.{Wide, Order, Roots}
use Rattle.qd_doc.proofs.Places.{Reads}
use Rattle.qd_doc.proofs.Sections.{IsWhole, reads_document}
use Rattle.qd_doc.proofs.Shapes.{document_in_range}
use Rattle.qd_doc.proofs.reading.parse.Goals as goal

-- what reading says of a text, at an equation
reads_at : (bytes : List ℕ) (form : Form) (r : Result Document DocRefusal) → read_document (length bytes) form (tokens bytes) ≡ r
    → Reads form (length bytes) (tokens bytes) r (IsWhole (length bytes) (tokens bytes) form)
reads_at bytes form r e = rw e at (reads_document (length bytes) (tokens bytes) form)

parses : (bytes : List ℕ) (form : Form) (r : Result Document DocRefusal) → Gives (λ document. document) r (read_document (length bytes) form (tokens bytes)) → Parses form bytes r
unfolding stop_of
parses bytes form (Ok document) gives = let read = reads_at bytes form (Ok document) gives in (read.lawful, read.contents)
parses bytes form (Err (Syntax offset expected)) gives = reads_at bytes form (Err (Syntax offset expected)) gives
parses bytes form (Err (Wide offset)) gives = reads_at bytes form (Err (Wide offset)) gives
parses bytes form (Err (Section offset)) gives = reads_at bytes form (Err (Section offset)) gives
parses bytes form (Err (Order number)) gives = reads_at bytes form (Err (Order number)) gives
parses bytes form (Err (Roots number)) gives = reads_at bytes form (Err (Roots number)) gives
parses bytes form (Err Memory) gives = tt

in_range : (bytes : List ℕ) (form : Form) (r : Result Document DocRefusal) → Parses form bytes r → IfOk r IsInRange
in_range bytes form (Ok document) parsed = subst IsInRange (sym parsed.1) (document_in_range form bytes parsed.0)
in_range bytes form (Err refusal) parsed = tt

pub returns-clause-parses : goal.returns-clause-parses
returns-clause-parses c = parses c.args.bytes.now.items c.args.form c.document.result c.document.ensures.gives

pub returns-clause-in_range : goal.returns-clause-in_range
returns-clause-in_range c =
    in_range c.args.bytes.now.items c.args.form c.document.result (parses c.args.bytes.now.items c.args.form c.document.result c.document.ensures.gives)
