-- What a step of the program answers, by what its test says.
use Rattle.std.specs.Prelude.{◌≡◌, Option, Some, None, Result, Ok, Err, ◌⊎◌}
use Rattle.data_print.specs.declared.cause.Cause.{Cause}
use Rattle.qd_engine.specs.declared.stop.Stop.{Stop}
use Rattle.qd_engine.specs.declared.stop.Stop.TheVariants.{Refused, Memory}

-- its value, exactly where the test says nothing; else what the test says. Want of memory says nothing
abbrev pub Tests : {X : Type 0} → Option Cause → (X → Type 0) → Result X Stop → Type 0
Tests test gives (Ok x) = (test ≡ None) × gives x
Tests test gives (Err (Refused cause)) = test ≡ Some cause
Tests test gives (Err Memory) = Unit {0}

-- the same of steps past which something may come late: then it may be refused so, where the test says nothing
abbrev pub Follows : {X : Type 0} → Option Cause → (Cause → Type 0) → (X → Type 0) → Result X Stop → Type 0
Follows test late gives (Ok x) = (test ≡ None) × gives x
Follows test late gives (Err (Refused cause)) = (test ≡ Some cause) ⊎ ((test ≡ None) × late cause)
Follows test late gives (Err Memory) = Unit {0}

-- it stops for want of memory, or late
abbrev pub StopsLate : (Cause → Type 0) → Stop → Type 0
StopsLate late (Refused cause) = late cause
StopsLate late Memory = Unit {0}
