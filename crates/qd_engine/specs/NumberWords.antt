-- The words of a command line that are numbers.
use Rattle.std.specs.Prelude.{ℕ, ◌&&◌, nat_le, if◌then◌else◌, List, length, Option, None}
use Rattle.std.specs.Result.{result_ok}
use Rattle.qd_text.specs.Numbers.{number_of}

-- the number that a word spells, leading zeros allowed: it has 1 to 10 bytes, all of them digits, and its value fits in 32 bits
abbrev pub number_word : List ℕ → Option ℕ
number_word word = if nat_le 1 (length word) && nat_le (length word) 10 then result_ok (number_of word) else None
