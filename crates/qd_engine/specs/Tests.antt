-- What the program tests, in order: the first test that says something is the cause of its refusal. Each test has a value
-- for every input; where one before it says something, that value is of no account.
use Rattle.std.specs.Prelude.{◌≡◌, ℕ, List, [], ◌∷◌, length, nat_le, nat_lt, ◌==◌, sum, slice_get, if◌then◌else◌}
use Rattle.std.specs.Prelude.{Option, Some, None, Result, Ok, Err}
use Rattle.std.specs.Option.{option_map}
use Rattle.scan.specs.First.{option_or}
use Rattle.qd_io.specs.declared.reading.TheConstants.{INPUT_LIMIT}
use Rattle.qd_doc.specs.Grammar.{stop_of}
use Rattle.qd_doc.specs.Blocks.{Block}
use Rattle.qd_doc.specs.declared.document.Document.{Document}
use Rattle.qd_doc.specs.declared.document.Given.{Given}
use Rattle.qd_doc.specs.declared.refusal.DocRefusal.{DocRefusal}
use Rattle.qd_doc.specs.declared.refusal.DocRefusal.TheVariants as stops
use Rattle.qd_doc.specs.declared.document.Form.{Form}
use Rattle.group_make.specs.declared.refusal.MakeRefusal.{MakeRefusal}
use Rattle.group_make.specs.declared.refusal.MakeRefusal.TheVariants as makes
use Rattle.named_cocycles.specs.Makers.{maker_fault}
use Rattle.group_table.specs.Group.{Table, group_fault}
use Rattle.cochain.specs.Cochain.{Cochain, cocycle_fault}
use Rattle.cyclotomic.specs.Conductors.{least_conductor}
use Rattle.modular_st.specs.Numerators.{IsOverflow}
use Rattle.transport.specs.Simples.{SimplesOver}
use Rattle.qd_ring.specs.declared.site.Site.{Site}
use Rattle.prime_field.specs.Moduli.{modulus_fault}
use Rattle.prime_field.specs.declared.mod_ring.ModRing.{ModRing}
use Rattle.twist_lift.specs.Laws.{root_order}
use Rattle.transport.specs.Fusion.{fusion_sum}
use Rattle.fusion.specs.Numbers.{whole_fault}
use Rattle.qd_steps.specs.Tables.{plain_of, tables_cause, simples_over}
use Rattle.qd_steps.specs.ByModulus.{modulus_cause}
use Rattle.qd_engine.specs.Words.{command_of, have_numbers, most_simples, form_of}
use Rattle.qd_engine.specs.Documents.{document_in, table_of, exponents_of, given_in, conductor_of}
use Rattle.qd_engine.specs.Sources.{field_for, lifted_by, blocks_of}
use Rattle.qd_engine.specs.Shape.{shape_fault}
use Rattle.qd_engine.specs.Report.{class_ranks, report_in}
use Rattle.qd_engine.specs.declared.command.RowPart.{RowPart}
use Rattle.qd_engine.specs.declared.command.RowPart.TheVariants as row_parts
use Rattle.qd_engine.specs.declared.command.RowSource.{RowSource}
use Rattle.qd_engine.specs.declared.command.RowSource.TheVariants.{Stated, Lifted}
use Rattle.qd_engine.specs.declared.command.RowReport.{RowReport}
use Rattle.qd_engine.specs.declared.command.Input.{Input}
use Rattle.qd_engine.specs.declared.command.Input.TheVariants.{Read, Made, Sampled}
use Rattle.qd_engine.specs.declared.command.Command.{Command}
use Rattle.data_print.specs.declared.cause.Cause.{Cause}
use Rattle.data_print.specs.declared.cause.Cause.TheVariants as causes

-- what the first test says that says something
abbrev pub first_of_all : List (Option Cause) → Option Cause
first_of_all [] = None
first_of_all (test ∷ tests) = option_or test (first_of_all tests)

-- why a text is no document. Want of memory is no such reason
abbrev pub scan_test : Option DocRefusal → Option Cause
scan_test None = None
scan_test (Some (stops.Syntax offset expected)) = Some (causes.Syntax offset expected)
scan_test (Some (stops.Wide offset)) = Some (causes.Wide offset)
scan_test (Some (stops.Section offset)) = Some (causes.Section offset)
scan_test (Some (stops.Order number)) = Some (causes.Order number)
scan_test (Some (stops.Roots number)) = Some (causes.Roots number)
scan_test (Some stops.Memory) = None

-- why no cocycle was made of numbers. Want of memory is no such reason
abbrev pub maker_test : Option MakeRefusal → Option Cause
maker_test None = None
maker_test (Some (makes.Size order)) = Some (causes.Size order)
maker_test (Some (makes.Action power)) = Some (causes.Action power)
maker_test (Some makes.Memory) = None

-- what is read is no document of this form, or no cocycle is made
abbrev pub input_test : Input → Form → List ℕ → Option Cause
input_test Read form bytes = scan_test (stop_of form bytes)
input_test (Made maker) form bytes = maker_test (maker_fault maker)
input_test (Sampled s) form bytes = None

-- no conductor is a multiple of this
abbrev pub without_conductor : ℕ → Option ℕ → Option Cause
without_conductor multiple None = Some (causes.NoConductor multiple)
without_conductor multiple (Some k) = None

unfoldable pub conductor_test : Cochain → Option Cause
conductor_test w = without_conductor (root_order w) (least_conductor (root_order w))

-- the stated conductor is another one
abbrev pub stated_test : ℕ → ℕ → Option Cause
stated_test stated needed = if stated == needed then None else Some (causes.Conductor stated needed)

-- there are more simples than the command takes
abbrev pub simples_test : ℕ → ℕ → Option Cause
simples_test ranks most = if nat_le ranks most then None else Some (causes.Simples ranks most)

-- the blocks don't match the classes
abbrev pub shape_test : Table → List Block → Option Cause
shape_test t blocks = option_map causes.Shape (shape_fault t blocks)

-- q is no valid modulus for the order of the group and the conductor
abbrev pub modulus_test : ℕ → Cochain → Option Cause
modulus_test q w = option_map causes.Modulus (modulus_fault q w.group.order (conductor_of w))

-- the rows that are lifted by a field are refused, or their tables
abbrev pub lifting_test : Cochain → Option ModRing → Option Cause
lifting_test w None = None
lifting_test w (Some ring) = modulus_cause ring w

-- some fusion sum is not the order of the group times a whole number of at least 0; this is the first
abbrev pub not_whole : (k : ℕ) → SimplesOver → ℕ × ℕ × ℕ → Cause
not_whole k s (i, j, l) = causes.NotWhole i j l (plain_of k (fusion_sum k s i j l).value)

abbrev pub whole_test : (k : ℕ) → SimplesOver → Option Cause
whole_test k s = option_map (not_whole k s) (whole_fault k s)

-- the same for a report with these parts, where one of them says something of fusion numbers
abbrev pub numbers_test : (k : ℕ) → SimplesOver → List RowPart → Option Cause
numbers_test k s parts = if have_numbers parts then whole_test k s else None

-- the tests of rows that are stated, for a report with these parts
abbrev pub stated_tests : Cochain → Given → List RowPart → List (Option Cause)
stated_tests w given parts =
    stated_test given.conductor (conductor_of w)
    ∷ simples_test (sum (class_ranks w)) (most_simples parts)
    ∷ shape_test w.group given.blocks
    ∷ tables_cause w (conductor_of w) given.blocks
    ∷ []

-- those of rows that are lifted modulo q
abbrev pub lifted_tests : Cochain → ℕ → List RowPart → List (Option Cause)
lifted_tests w q parts =
    modulus_test q w
    ∷ simples_test (sum (class_ranks w)) (most_simples parts)
    ∷ lifting_test w (field_for q w)
    ∷ numbers_test (conductor_of w) (simples_over w (lifted_by w (field_for q w))) parts
    ∷ []

-- those of the rows of a source
abbrev pub source_tests : RowSource → Cochain → Given → List RowPart → List (Option Cause)
source_tests Stated w given parts = stated_tests w given parts
source_tests (Lifted q) w given parts = lifted_tests w q parts

-- all tests of the rows of a report, in order
unfoldable pub report_test : Cochain → Given → RowReport → Option Cause
report_test w given report = first_of_all (conductor_test w ∷ source_tests report.source w given report.parts)

-- those of a command, where it reports on rows
abbrev pub rows_test : Cochain → Given → Option RowReport → Option Cause
rows_test w given None = None
rows_test w given (Some report) = report_test w given report

-- the table is no group
abbrev pub group_test : Document → Option Cause
group_test document = option_map causes.Group (group_fault (table_of document))

-- the exponents are no normalised 3-cocycle
abbrev pub cocycle_test : Document → Option Cause
cocycle_test document = option_map causes.Cocycle (cocycle_fault (exponents_of document))

-- all tests of a document
unfoldable pub document_test : Command → Document → Option Cause
document_test command document =
    let w = exponents_of document in
    first_of_all (group_test document ∷ cocycle_test document ∷ rows_test w (given_in document) command.rows ∷ [])

-- all tests of an input that is short enough, in order
abbrev pub tests : Command → List ℕ → List (Option Cause)
tests command bytes =
    input_test command.input (form_of command) bytes
    ∷ document_test command (document_in command bytes)
    ∷ []

unfoldable pub refusal : Command → List ℕ → Option Cause
refusal command bytes = first_of_all (tests command bytes)

-- what may be refused past the tests, where this part is in the report: a sum of S that overflows
abbrev pub LatePart : (k : ℕ) → SimplesOver → RowPart → Cause → Type 0
LatePart k s row_parts.S cause = (site : Site) × (cause ≡ causes.Overflow site) × IsOverflow k s site
LatePart k s part cause = ⊥

abbrev pub LateIn : (k : ℕ) → SimplesOver → List RowPart → Cause → Type 0
LateIn k s parts cause = (i : ℕ) × (part : RowPart) × (slice_get parts i ≡ Some part) × LatePart k s part cause

-- nothing comes late where the rows are lifted
abbrev pub LateReport : RowSource → (k : ℕ) → SimplesOver → List RowPart → Cause → Type 0
LateReport Stated k s parts cause = LateIn k s parts cause
LateReport (Lifted q) k s parts cause = ⊥

abbrev pub LateRows : Cochain → Given → Option RowReport → Cause → Type 0
LateRows w given None cause = ⊥
LateRows w given (Some report) cause =
    LateReport report.source (conductor_of w) (simples_over w (blocks_of report.source w given)) report.parts cause

abbrev pub Late : Command → Document → Cause → Type 0
Late command document cause = LateRows (exponents_of document) (given_in document) command.rows cause

-- the report, where nothing is refused
abbrev pub report_unless : Option Cause → List ℕ → Result (List ℕ) Cause
report_unless None text = Ok text
report_unless (Some cause) text = Err cause

-- what is said to a command and an input. More than the program reads is refused
abbrev pub answer_to : Command → List ℕ → Result (List ℕ) Cause
answer_to command bytes =
    if nat_lt INPUT_LIMIT (length bytes) then Err causes.TooLong
    else report_unless (refusal command bytes) (report_in command bytes)

abbrev pub answer_for : Option Command → List ℕ → Result (List ℕ) Cause
answer_for None bytes = Err causes.Usage
answer_for (Some command) bytes = answer_to command bytes

-- from the words and the input to the report, or to the first cause of a refusal
abbrev pub plan : List (List ℕ) → List ℕ → Result (List ℕ) Cause
plan words bytes = answer_for (command_of words) bytes

abbrev pub LateFor : Option Command → List ℕ → Cause → Type 0
LateFor None bytes cause = ⊥
LateFor (Some command) bytes cause = Late command (document_in command bytes) cause

-- what may come late, in place of a report
abbrev pub ComesLate : List (List ℕ) → List ℕ → Cause → Type 0
ComesLate words bytes cause = LateFor (command_of words) bytes cause
