-- What a refusal of the steps says.
use Rattle.std.specs.Prelude.{◌≡◌, Option, Some}
use Rattle.data_print.specs.declared.cause.Cause.{Cause}
use Rattle.qd_steps.specs.declared.refusal.StepRefusal.{StepRefusal}
use Rattle.qd_steps.specs.declared.refusal.StepRefusal.TheVariants.{Refused, Memory}

-- the refusal is that of the cause that is found; want of memory says nothing
abbrev pub IsRefusalFor : Option Cause → StepRefusal → Type 0
IsRefusalFor found (Refused cause) = found ≡ Some cause
IsRefusalFor found Memory = Unit {0}
