-- Words of a command line that are taken as they stand.
use Rattle.std.specs.Prelude.{ℕ, List, [], ◌∷◌, Bool, false, ◌&&◌, not, ◌==◌}
use Rattle.std.specs.List.{list_all}

-- a word is not empty, and does not begin with a hyphen (45)
abbrev pub is_plain : List ℕ → Bool
is_plain [] = false
is_plain (byte ∷ rest) = not (byte == 45)

-- there is a word, and all are plain
abbrev pub are_plain : List (List ℕ) → Bool
are_plain [] = false
are_plain (word ∷ rest) = is_plain word && list_all is_plain rest
