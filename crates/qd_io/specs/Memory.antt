-- Sources and sinks over bytes in memory, which fail at chosen calls.
use Rattle.std.specs.Prelude.{ℕ, ◌+◌, ◌-◌, ◌^◌, Bool, true, ◌==◌, List, [], ◌∷◌, ◌++◌, length, take, drop, min, if◌then◌else◌}
use Rattle.std.specs.List.{list_any}

-- A source: what is left, how many bytes a call gives at the most, the numbers of the calls that fail (the first
-- is call 1), and how many calls and faults there have been.
pub record MemorySource : Type 0 where
  pub left : List ℕ
  pub step : ℕ
  pub fails : List ℕ
  pub calls : ℕ
  pub faults : ℕ

-- A sink: what was written, the room that is left, and the rest as for a source.
pub record MemorySink : Type 0 where
  pub written : List ℕ
  pub room : ℕ
  pub step : ℕ
  pub fails : List ℕ
  pub calls : ℕ
  pub faults : ℕ

-- a count goes up by one, and stops at the last number of its type
abbrev pub next_call : ℕ → ℕ
next_call calls = min (calls + 1) (2 ^ 32 - 1)

abbrev pub next_fault : ℕ → ℕ
next_fault faults = min (faults + 1) (2 ^ 64 - 1)

-- the next call is one of those that fail
abbrev pub is_due : List ℕ → ℕ → Bool
is_due fails calls = list_any (λ number. number == calls + 1) fails

-- how many bytes the next call gives to a buffer of this length
abbrev pub given : MemorySource → ℕ → ℕ
given s room = min s.step (min room (length s.left))

-- the source after a call with a buffer of this length
abbrev pub after_read : MemorySource → ℕ → MemorySource
after_read s room =
    if is_due s.fails s.calls
    then record s { calls = next_call s.calls; faults = next_fault s.faults }
    else record s { left = drop (given s room) s.left; calls = next_call s.calls }

-- how many bytes of a piece of this length the next call takes
abbrev pub accepted : MemorySink → ℕ → ℕ
accepted s long = min s.step (min long s.room)

-- the next call is a fault: it is one of those that fail, or no room is left for a piece that is not empty
abbrev pub is_refused : MemorySink → List ℕ → Bool
is_refused s [] = is_due s.fails s.calls
is_refused s (byte ∷ bytes) = if is_due s.fails s.calls then true else s.room == 0

-- the sink after a call with this piece
abbrev pub after_write : MemorySink → List ℕ → MemorySink
after_write s piece =
    if is_refused s piece
    then record s { calls = next_call s.calls; faults = next_fault s.faults }
    else record s { written = s.written ++ take (accepted s (length piece)) piece; room = s.room - accepted s (length piece); calls = next_call s.calls }

-- a sink that promises the room that is left
pub record RoomySink : Type 0 where
  pub written : List ℕ
  pub room : ℕ
  pub faults : ℕ
