-- The answers of the program: what each says, and its status.
use Rattle.std.specs.Prelude.{◌≡◌, ℕ, None, ⊤}
use Rattle.qd_engine.specs.declared.answer.Why.{Why}
use Rattle.qd_engine.specs.declared.answer.Why.TheVariants as whys
use Rattle.qd_engine.specs.declared.answer.Refusal.{Refusal}
use Rattle.qd_engine.specs.declared.answer.Outcome.{Outcome}
use Rattle.qd_engine.specs.declared.answer.Outcome.TheVariants.{Report, Refused, Memory}
use Rattle.data_print.specs.declared.cause.Cause.{Cause}
use Rattle.data_print.specs.declared.cause.Cause.TheVariants as causes

-- what there was to say was written whole, or the sink cut it; then its status was this
pub data Said : Type 0 where
  Whole : Outcome → Said
  Cut : ℕ → Said

-- the refusal of the whole input for a cause
abbrev pub of_whole : Cause → Refusal
of_whole cause = record { cause = cause; section = None }

-- what there is to say is not said of a section alone. No input has sections yet
abbrev pub IsOfWhole : Outcome → Type 0
IsOfWhole (Refused refusal) = refusal.section ≡ None
IsOfWhole outcome = ⊤

-- what an answer says that stands for a cause
abbrev pub refused : Cause → Said
refused cause = Whole (Refused (of_whole cause))

-- what an answer says
abbrev pub said_by : Why → Said
said_by whys.Done = Whole Report
said_by whys.Usage = refused causes.Usage
said_by whys.Read = refused causes.Read
said_by whys.TooLong = refused causes.TooLong
said_by (whys.Syntax offset expected) = refused (causes.Syntax offset expected)
said_by (whys.Wide offset) = refused (causes.Wide offset)
said_by (whys.Section offset) = refused (causes.Section offset)
said_by (whys.Order number) = refused (causes.Order number)
said_by (whys.Roots number) = refused (causes.Roots number)
said_by (whys.Group fault) = refused (causes.Group fault)
said_by (whys.Cocycle fault) = refused (causes.Cocycle fault)
said_by (whys.Size order) = refused (causes.Size order)
said_by (whys.Action power) = refused (causes.Action power)
said_by (whys.NoConductor multiple) = refused (causes.NoConductor multiple)
said_by (whys.Conductor stated needed) = refused (causes.Conductor stated needed)
said_by (whys.Modulus fault) = refused (causes.Modulus fault)
said_by (whys.Simples ranks most) = refused (causes.Simples ranks most)
said_by (whys.Shape fault) = refused (causes.Shape fault)
said_by (whys.NoDegree at row s) = refused (causes.NoDegree at row s)
said_by (whys.Multiplicity at row x sum degree) = refused (causes.Multiplicity at row x sum degree)
said_by (whys.Count at rows rank) = refused (causes.Count at rows rank)
said_by (whys.Identity name at i j x lhs rhs) = refused (causes.Identity name at i j x lhs rhs)
said_by (whys.NoTwist at row value) = refused (causes.NoTwist at row value)
said_by (whys.NoVacuum rows) = refused (causes.NoVacuum rows)
said_by (whys.NotWhole i j k value) = refused (causes.NotWhole i j k value)
said_by (whys.Overflow site) = refused (causes.Overflow site)
said_by (whys.Write planned) = Cut planned
said_by whys.Memory = Whole Memory

-- the status of a refusal
abbrev pub status_of_cause : Cause → ℕ
status_of_cause causes.Usage = 2
status_of_cause causes.Read = 12
status_of_cause causes.TooLong = 6
status_of_cause (causes.Syntax offset expected) = 3
status_of_cause (causes.Wide offset) = 3
status_of_cause (causes.Section offset) = 3
status_of_cause (causes.Order number) = 6
status_of_cause (causes.Roots number) = 6
status_of_cause (causes.Group fault) = 4
status_of_cause (causes.Cocycle fault) = 5
status_of_cause (causes.Size order) = 6
status_of_cause (causes.Action power) = 4
status_of_cause (causes.NoConductor multiple) = 6
status_of_cause (causes.Conductor stated needed) = 6
status_of_cause (causes.Modulus fault) = 7
status_of_cause (causes.Simples ranks most) = 6
status_of_cause (causes.Shape fault) = 9
status_of_cause (causes.NoDegree at row s) = 8
status_of_cause (causes.Multiplicity at row x sum degree) = 8
status_of_cause (causes.Count at rows rank) = 9
status_of_cause (causes.Identity name at i j x lhs rhs) = 9
status_of_cause (causes.NoTwist at row value) = 9
status_of_cause (causes.NoVacuum rows) = 9
status_of_cause (causes.NotWhole i j k value) = 10
status_of_cause (causes.Overflow site) = 11

-- the status of what there is to say
abbrev pub status_of : Outcome → ℕ
status_of Report = 0
status_of (Refused refusal) = status_of_cause refusal.cause
status_of Memory = 14

-- the status that the program ends with
abbrev pub status_by : Said → ℕ
status_by (Whole outcome) = status_of outcome
status_by (Cut planned) = 13
