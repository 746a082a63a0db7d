-- What a source and a sink of bytes do, and what may be known of them.
use Rattle.std.specs.Prelude.{◌≡◌, ℕ, ◌-◌, ◌^◌, ◌<◌, ◌≤◌, List, ◌++◌, length, Option, None, Some, Result, Ok, Err, ⊤}
use Rattle.std.specs.Io.KnownBytes.{Consumes, Appends}

-- a count of faults rose, or stands at the last value that an adapter can hold
abbrev pub Rises : ℕ → ℕ → Type 0
Rises before after = after < 2 ^ 64 - 1 → before < after

-- A promise of room: a piece no longer than the room is taken, in part at least, and the room falls by what was taken.
abbrev pub KeepsRoom : {E : Type 0} → Option ℕ → Option ℕ → Result ℕ E → List ℕ → Type 0
KeepsRoom None after result piece = ⊤
KeepsRoom (Some room) after (Ok taken) piece = length piece ≤ room → after ≡ Some (room - taken)
KeepsRoom (Some room) after (Err failed) piece = room < length piece

-- some bytes were taken, at most this many
abbrev pub TakesUpTo : ℕ → Option (List ℕ) → Option (List ℕ) → Type 0
TakesUpTo most before after = (taken : List ℕ) × (length taken ≤ most) × Consumes before after taken

-- some bytes were taken, more than this many
abbrev pub TakesOver : ℕ → Option (List ℕ) → Option (List ℕ) → Type 0
TakesOver most before after = (taken : List ℕ) × (most < length taken) × Consumes before after taken

-- a front of the text was added
abbrev pub AppendsFront : Option (List ℕ) → Option (List ℕ) → List ℕ → Type 0
AppendsFront before after text = (front : List ℕ) × (rest : List ℕ) × (text ≡ front ++ rest) × Appends before after front

-- the promised room is enough for the text
abbrev pub HasRoom : Option ℕ → List ℕ → Type 0
HasRoom None text = ⊥
HasRoom (Some room) text = length text ≤ room
