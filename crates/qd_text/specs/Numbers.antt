-- Natural numbers in decimal.
use Rattle.std.specs.Prelude.{ℕ, ◌+◌, ◌-◌, ◌*◌, ◌^◌, Bool, ◌&&◌, not, nat_lt, nat_le, if◌then◌else◌, List, fold, Result, Ok, Err}
use Rattle.std.specs.List.{list_all}
use Rattle.qd_text.specs.declared.natural.NumberFault.{NumberFault}
use Rattle.qd_text.specs.declared.natural.NumberFault.TheVariants.{NotNumber, Wide}

-- one of the ten digits of ASCII
abbrev pub is_digit : ℕ → Bool
is_digit byte = nat_le 48 byte && nat_le byte 57

-- the number that begins with the digits of `front` and goes on with these
abbrev pub value_after : ℕ → List ℕ → ℕ
value_after front digits = fold (λ value digit. value * 10 + (digit - 48)) front digits

-- the number that digits spell, leading zeros allowed
abbrev pub value : List ℕ → ℕ
value digits = value_after 0 digits

-- the number of a token: all its bytes are digits, and its value fits in 32 bits
unfoldable pub number_of : List ℕ → Result ℕ NumberFault
number_of text =
    if not (list_all is_digit text) then Err NotNumber
    else if nat_lt (value text) (2 ^ 32) then Ok (value text)
    else Err Wide
