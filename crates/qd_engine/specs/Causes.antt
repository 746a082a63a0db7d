-- The table of causes: what holds where the program has a thing to say.
use Rattle.std.specs.Prelude.{◌≡◌, ℕ, ◌<◌, ◌≤◌, List, length, sum, Option, Some, None, IsSome, true, ⊤, ◌⊎◌}
use Rattle.std.specs.Io.KnownBytes.{Appends}
use Rattle.qd_io.specs.declared.reading.TheConstants.{INPUT_LIMIT}
use Rattle.qd_doc.specs.Grammar.{stop_of}
use Rattle.qd_doc.specs.Blocks.{Block}
use Rattle.qd_doc.specs.declared.document.Document.{Document}
use Rattle.qd_doc.specs.declared.document.Given.{Given}
use Rattle.group_table.specs.Group.{IsGroup}
use Rattle.cochain.specs.Cochain.{Cochain, IsCocycle}
use Rattle.cyclotomic.specs.Conductors.{is_conductor, least_conductor}
use Rattle.classes.specs.Conjugacy.{representatives}
use Rattle.table_check.specs.Good.{IsGood}
use Rattle.table_check.specs.Idempotents.{AreIdempotents}
use Rattle.prime_field.specs.Moduli.{modulus_fault}
use Rattle.prime_field.specs.declared.mod_ring.ModRing.{ModRing}
use Rattle.twist_lift.specs.Laws.{root_order}
use Rattle.qd_steps.specs.Matched.{IsMatched}
use Rattle.qd_steps.specs.ByModulus.{lifts_cause}
use Rattle.transport.specs.Simples.{SimplesOver}
use Rattle.fusion.specs.Numbers.{whole_fault}
use Rattle.qd_steps.specs.Tables.{class_twist, class_table, simples_over}
use Rattle.qd_doc.specs.declared.document.Form.{Form}
use Rattle.named_cocycles.specs.Makers.{maker_fault}
use Rattle.qd_engine.specs.Words.{command_of, reads_by, read_of, have_numbers, most_simples, form_of}
use Rattle.qd_engine.specs.Documents.{document_in, table_of, exponents_of, given_in, conductor_of}
use Rattle.qd_engine.specs.Sources.{field_for, blocks_of}
use Rattle.qd_engine.specs.Report.{class_ranks, report_in}
use Rattle.qd_engine.specs.Tests.{refusal, Late}
use Rattle.qd_engine.specs.Answers.{Said, Whole, Cut, status_of}
use Rattle.qd_engine.specs.Headline.{AreModularData, HasFusionRule}
use Rattle.qd_engine.specs.declared.command.RowSource.{RowSource}
use Rattle.qd_engine.specs.declared.command.RowSource.TheVariants.{Stated, Lifted}
use Rattle.qd_engine.specs.declared.command.RowPart.{RowPart}
use Rattle.qd_engine.specs.declared.command.RowReport.{RowReport}
use Rattle.qd_engine.specs.declared.command.Input.{Input}
use Rattle.qd_engine.specs.declared.command.Input.TheVariants as inputs
use Rattle.qd_engine.specs.declared.command.Command.{Command}
use Rattle.qd_engine.specs.declared.answer.Refusal.{Refusal}
use Rattle.qd_engine.specs.declared.answer.Outcome.{Outcome}
use Rattle.qd_engine.specs.declared.answer.Outcome.TheVariants.{Report, Refused, Memory}
use Rattle.data_print.specs.declared.cause.Cause.{Cause}
use Rattle.data_print.specs.declared.cause.Cause.TheVariants.{Usage, Read, TooLong}

-- the input is what the source had left, where it tells that
abbrev pub Agrees : Option (List ℕ) → List ℕ → Type 0
Agrees None bytes = ⊤
Agrees (Some left) bytes = bytes ≡ left

-- a fact about the input
abbrev pub OfInput : Option (List ℕ) → (List ℕ → Type 0) → Type 0
OfInput left P = (bytes : List ℕ) × Agrees left bytes × P bytes

-- a fact about the command that the words ask for, and an input that is short enough
abbrev pub OfCommand : List (List ℕ) → Option (List ℕ) → (Command → List ℕ → Type 0) → Type 0
OfCommand words left P =
    (command : Command) × (command_of words ≡ Some command)
    × OfInput (read_of words left) (λ bytes. (length bytes ≤ INPUT_LIMIT) × P command bytes)

-- the input is refused so: the first test that says something says this; or none does, and this comes late
abbrev pub Refuses : Cause → Command → List ℕ → Type 0
Refuses cause command bytes =
    (refusal command bytes ≡ Some cause)
    ⊎ ((refusal command bytes ≡ None) × Late command (document_in command bytes) cause)

-- What holds where the program refuses so, by the words, by what the source had left, and by whether the source failed in
-- this call.
abbrev pub Means : List (List ℕ) → Option (List ℕ) → Type 0 → Cause → Type 0
Means words left failed Usage = command_of words ≡ None
Means words left failed Read = (reads_by words ≡ true) × failed
Means words left failed TooLong =
    IsSome (command_of words) × OfInput (read_of words left) (λ bytes. INPUT_LIMIT < length bytes)
Means words left failed cause = OfCommand words left (Refuses cause)

-- the rows of a conductor are good tables of the classes
pub record AreGood (w : Cochain) (k : ℕ) (blocks : List Block) : Type 0 where
  pub matched : IsMatched w.group blocks
  pub good : (c : ℕ) → c < length (representatives w.group) → IsGood (class_twist w c) (class_table k blocks c)

-- q is a valid modulus, and by it each candidate of each class has its degree and its multiplicities
pub record IsLifted (q : ℕ) (w : Cochain) : Type 0 where
  pub valid : modulus_fault q w.group.order (conductor_of w) ≡ None
  pub ring : ModRing
  pub field : field_for q w ≡ Some ring
  pub lifted : lifts_cause ring w ≡ None

-- the source gives rows of the conductor: the one that is stated is the one that is needed, or the rows are lifted
abbrev pub HasRows : RowSource → Cochain → Given → Type 0
HasRows Stated w given = given.conductor ≡ conductor_of w
HasRows (Lifted q) w given = IsLifted q w

-- where fusion numbers are asked for of lifted rows, each fusion sum of their simples gives one
abbrev pub HasNumbers : RowSource → (k : ℕ) → SimplesOver → List RowPart → Type 0
HasNumbers Stated k s parts = ⊤
HasNumbers (Lifted q) k s parts = have_numbers parts ≡ true → whole_fault k s ≡ None

-- there is a conductor, and the source gives rows of it; there are no more simples than the command takes; the rows are good
-- tables; and their simples have the fusion numbers that are asked for
pub record IsVerified (w : Cochain) (given : Given) (report : RowReport) : Type 0 where
  pub conductor : least_conductor (root_order w) ≡ Some (conductor_of w)
  pub source : HasRows report.source w given
  pub few : sum (class_ranks w) ≤ most_simples report.parts
  pub rows : AreGood w (conductor_of w) (blocks_of report.source w given)
  pub numbers : HasNumbers report.source (conductor_of w) (simples_over w (blocks_of report.source w given)) report.parts

-- a fact about the cocycle and the rows of a document, for a command with rows
abbrev pub OfRows : Command → Document → (Cochain → Given → RowReport → Type 0) → Type 0
OfRows command document P =
    (report : RowReport) → command.rows ≡ Some report → P (exponents_of document) (given_in document) report

-- what is read is a document of this form, or the numbers that a cocycle is made of are not refused
abbrev pub HasInput : Input → Form → List ℕ → Type 0
HasInput inputs.Read form bytes = stop_of form bytes ≡ None
HasInput (inputs.Made maker) form bytes = maker_fault maker ≡ None
HasInput (inputs.Sampled s) form bytes = ⊤

-- the input of the command gives a document of the form that it reads; its table is a group, and its exponents are a normalised
-- 3-cocycle of it; for a command with rows, these are good tables
pub record IsAccepted (command : Command) (bytes : List ℕ) : Type 0 where
  pub document : HasInput command.input (form_of command) bytes
  pub group : IsGroup (table_of (document_in command bytes))
  pub cocycle : IsCocycle (exponents_of (document_in command bytes))
  pub verified : OfRows command (document_in command bytes) IsVerified

-- for each class, the rows give orthogonal central idempotents of its twisted group algebra that add up to one, as many as
-- its rank
pub record GiveIdempotents (w : Cochain) (k : ℕ) (blocks : List Block) : Type 0 where
  pub conductor : is_conductor k ≡ true
  pub idempotents : (c : ℕ) → c < length (representatives w.group)
      → AreIdempotents (class_twist w c) (class_table k blocks c) conductor

-- the rows of a report give simples whose numbers are modular data
abbrev pub GiveModularData : Cochain → Given → RowReport → Type 0
GiveModularData w given report = AreModularData (conductor_of w) (simples_over w (blocks_of report.source w given))

-- where fusion numbers are asked for of lifted rows, those of their simples are a fusion rule
abbrev pub HasRule : RowSource → (k : ℕ) → SimplesOver → List RowPart → Type 0
HasRule Stated k s parts = ⊤
HasRule (Lifted q) k s parts = have_numbers parts ≡ true → HasFusionRule k s

-- the fusion numbers that a report has are a fusion rule
abbrev pub GiveFusionRule : Cochain → Given → RowReport → Type 0
GiveFusionRule w given report =
    HasRule report.source (conductor_of w) (simples_over w (blocks_of report.source w given)) report.parts

-- The headline, of the rows of a report: for each class they give nonzero orthogonal central idempotents of its twisted group algebra
-- that add up to one, as many as its rank; the numbers of their simples are modular data; and the fusion numbers are a fusion rule
pub record GiveDouble (w : Cochain) (given : Given) (report : RowReport) : Type 0 where
  pub idempotents : GiveIdempotents w (conductor_of w) (blocks_of report.source w given)
  pub modular : GiveModularData w given report
  pub fusion : GiveFusionRule w given report

-- the input of the command is accepted, and the headline holds of a command that has rows
pub record GivesReport (command : Command) (bytes : List ℕ) : Type 0 where
  pub accepted : IsAccepted command bytes
  pub headline : OfRows command (document_in command bytes) GiveDouble

-- what holds where the program refuses so: what its cause means, of the whole input
pub record MeansRefusal (words : List (List ℕ)) (left : Option (List ℕ)) (failed : Type 0) (refusal : Refusal) : Type 0 where
  pub whole : refusal.section ≡ None
  pub cause : Means words left failed refusal.cause

-- what holds where the program has this to say. Want of memory says nothing
abbrev pub MeansSo : List (List ℕ) → Option (List ℕ) → Type 0 → Outcome → Type 0
MeansSo words left failed Report = OfCommand words left GivesReport
MeansSo words left failed (Refused refusal) = MeansRefusal words left failed refusal
MeansSo words left failed Memory = ⊤

-- what holds where an answer comes: what it means; or what there was to say means, which the sink cut
abbrev pub Comes : List (List ℕ) → Option (List ℕ) → Type 0 → Said → Type 0
Comes words left failed (Whole outcome) = MeansSo words left failed outcome
Comes words left failed (Cut planned) =
    (outcome : Outcome) × (status_of outcome ≡ planned) × MeansSo words left failed outcome

-- The program is done: the words are a command, its input gives a report, and the sink has exactly that.
pub record IsDone (words : List (List ℕ)) (left before after : Option (List ℕ)) : Type 0 where
  pub command : Command
  pub asked : command_of words ≡ Some command
  pub bytes : List ℕ
  pub input : Agrees (read_of words left) bytes
  pub short : length bytes ≤ INPUT_LIMIT
  pub gives : GivesReport command bytes
  pub report : Appends before after (report_in command bytes)
