-- What the program has to say, and how it ends by writing that.
use Rattle.std.specs.Prelude.{◌≡◌, ℕ, ◌<◌, List, length, Option, None, Result, Ok, Err, ⊤, ◌⊎◌}
use Rattle.std.specs.Global.{Vec}
use Rattle.std.specs.Io.KnownBytes.{Appends}
use Rattle.qd_io.specs.Stream.{AppendsFront, HasRoom, TakesUpTo, TakesOver}
use Rattle.qd_io.specs.declared.reading.TheConstants.{INPUT_LIMIT}
use Rattle.data_print.specs.Lines.{line_of, memory_line}
use Rattle.data_print.specs.declared.cause.Cause.{Cause}
use Rattle.data_print.specs.declared.cause.Cause.TheVariants.{Read, TooLong}
use Rattle.qd_engine.specs.Words.{form_of}
use Rattle.qd_engine.specs.Report.{report_in}
use Rattle.qd_engine.specs.Tests.{refusal}
use Rattle.qd_engine.specs.Answers.{Said, Whole, Cut, of_whole, refused, status_of}
use Rattle.qd_engine.specs.Causes.{Agrees, OfInput, OfCommand, Means, MeansRefusal, HasInput}
use Rattle.qd_engine.specs.declared.command.Command.{Command}
use Rattle.qd_engine.specs.declared.answer.Outcome.{Outcome}
use Rattle.qd_engine.specs.declared.answer.Outcome.TheVariants.{Report, Refused, Memory}
use Rattle.qd_engine.specs.declared.stop.Stop.{Stop}
use Rattle.qd_engine.specs.declared.stop.Stop.TheVariants as stops

-- the input gives a document, no test says anything, and this is the report
pub record Reports (text : List ℕ) (command : Command) (bytes : List ℕ) : Type 0 where
  pub document : HasInput command.input (form_of command) bytes
  pub passes : refusal command bytes ≡ None
  pub text_is : text ≡ report_in command bytes

-- what the program has to say, and its text
abbrev pub Says : List (List ℕ) → Option (List ℕ) → Type 0 → Outcome → List ℕ → Type 0
Says words left failed Report text = OfCommand words left (Reports text)
Says words left failed (Refused refusal) text = MeansRefusal words left failed refusal × (text ≡ line_of refusal.cause)
Says words left failed Memory text = text ≡ memory_line

-- what a sink had written and promised before a call, and has written after it
pub record Writing : Type 0 where
  pub before : Option (List ℕ)
  pub after : Option (List ℕ)
  pub room : Option ℕ

-- the text was added whole
pub record IsWhole (writing : Writing) (said : Said) (outcome : Outcome) (text : List ℕ) : Type 0 where
  pub is : said ≡ Whole outcome
  pub added : Appends writing.before writing.after text

-- the sink failed after a front of the text, and had not promised room for it
pub record IsCut (writing : Writing) (failed : Type 0) (said : Said) (outcome : Outcome) (text : List ℕ) : Type 0 where
  pub is : said ≡ Cut (status_of outcome)
  pub rose : failed
  pub front : AppendsFront writing.before writing.after text
  pub no_room : HasRoom writing.room text → ⊥

-- how the program ends, with a text to write
abbrev pub Ends : Writing → Type 0 → Said → Outcome → List ℕ → Type 0
Ends writing failed said outcome text = IsWhole writing said outcome text ⊎ IsCut writing failed said outcome text

-- how the program ends: there was something to say, and it ends by writing that
pub record EndsSaying (words : List (List ℕ)) (left : Option (List ℕ)) (source_failed : Type 0)
    (writing : Writing) (sink_failed : Type 0) (said : Said) : Type 0 where
  pub outcome : Outcome
  pub text : List ℕ
  pub says : Says words left source_failed outcome text
  pub ends : Ends writing sink_failed said outcome text

-- no fault of the sink rose, or it promised room for the text and for the line for want of memory
abbrev pub IsRoomy : Type 0 → Option ℕ → List ℕ → Type 0
IsRoomy failed room text = (failed → ⊥) ⊎ (HasRoom room text × HasRoom room memory_line)

-- what comes of reading: all that was left; or the source failed; or more came than the program reads
abbrev pub Reads : Option (List ℕ) → Type 0 → Result (Vec ℕ) Stop → Type 0
Reads left failed (Ok bytes) = Agrees left bytes.items
Reads left failed (Err (stops.Refused Read)) = failed
Reads left failed (Err (stops.Refused TooLong)) = OfInput left (λ bytes. INPUT_LIMIT < length bytes)
Reads left failed (Err (stops.Refused cause)) = ⊥
Reads left failed (Err stops.Memory) = ⊤

-- how much was taken of a source where the program refuses so: more than it reads exactly where it refuses for that
abbrev pub TakesRefused : Option (List ℕ) → Option (List ℕ) → Cause → Type 0
TakesRefused before after TooLong = TakesOver INPUT_LIMIT before after
TakesRefused before after cause = TakesUpTo INPUT_LIMIT before after

-- how much was taken of it, by what came of the steps
abbrev pub Takes : {X : Type 0} → Option (List ℕ) → Option (List ℕ) → Result X Stop → Type 0
Takes before after (Err (stops.Refused cause)) = TakesRefused before after cause
Takes before after prepared = TakesUpTo INPUT_LIMIT before after

-- The same by the answer. One that was cut, or for want of memory, may stand for a refusal of too much.
abbrev pub TakesFor : Option (List ℕ) → Option (List ℕ) → Said → Type 0
TakesFor before after (Whole (Refused refusal)) = TakesRefused before after refusal.cause
TakesFor before after (Whole Memory) = TakesUpTo INPUT_LIMIT before after ⊎ TakesOver INPUT_LIMIT before after
TakesFor before after (Cut planned) =
    TakesUpTo INPUT_LIMIT before after ⊎ (((planned ≡ 6) ⊎ (planned ≡ 14)) × TakesOver INPUT_LIMIT before after)
TakesFor before after said = TakesUpTo INPUT_LIMIT before after

-- what comes of all steps before the writing
abbrev pub Prepares : List (List ℕ) → Option (List ℕ) → Type 0 → Result (Vec ℕ) Stop → Type 0
Prepares words left failed (Ok text) = OfCommand words left (Reports text.items)
Prepares words left failed (Err (stops.Refused cause)) = Means words left failed cause
Prepares words left failed (Err stops.Memory) = ⊤

-- what was prepared is said: the report, the line of the refusal, or that there was no memory
abbrev pub SaysPrepared : Result (Vec ℕ) Stop → Writing → Type 0 → Said → Type 0
SaysPrepared (Ok text) writing failed said = Ends writing failed said Report text.items
SaysPrepared (Err (stops.Refused cause)) writing failed said =
    Ends writing failed said (Refused (of_whole cause)) (line_of cause) ⊎ Ends writing failed said Memory memory_line
SaysPrepared (Err stops.Memory) writing failed said = Ends writing failed said Memory memory_line

-- What the plan gives is said, or that there was no memory; in place of a report it may be a refusal that comes late.
abbrev pub Decides : (Cause → Type 0) → Result (List ℕ) Cause → Said → Type 0
Decides late (Ok text) said =
    (said ≡ Whole Report) ⊎ ((said ≡ Whole Memory) ⊎ ((cause : Cause) × (said ≡ refused cause) × late cause))
Decides late (Err cause) said = (said ≡ refused cause) ⊎ (said ≡ Whole Memory)
