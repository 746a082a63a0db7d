-- What follows of the grammar of words.
use Rattle.std.specs.Prelude.{◌≡◌, ℕ, false, List, slice_get, slice_index, Some, None}
use Rattle.command_words.specs.PlainWords.{are_plain}
use Rattle.qd_engine.specs.Words.{command_of}

-- words of which one begins with `-` are no command
abbrev pub DashIsNoCommand : Type 0
DashIsNoCommand = (words : List (List ℕ)) (i : ℕ) (word : List ℕ) → slice_get words i ≡ Some word → slice_index word 0 ≡ 45 → command_of words ≡ None

-- words are no command where there is none, or one is empty or begins with `-`, so that a parse needs only look at others
abbrev pub UnplainIsNoCommand : Type 0
UnplainIsNoCommand = (words : List (List ℕ)) → are_plain words ≡ false → command_of words ≡ None
