-- What a token says as a value. That its text is that of the value is a law.
use Rattle.std.specs.Prelude.{ℕ, ◌-◌, ℤ, pos, Bool, false, ◌||◌, ◌==◌, nat_eq, if◌then◌else◌, List, ◌++◌, slice_index, codes, replicate, Option, Some, None, Result, Ok, Err, ◌≤◌}
use lib.Pointwise.{pointwise}
use Rattle.qd_text.specs.Numbers.{is_digit}
use Rattle.qd_ring.specs.declared.plain.Plain.{Plain}
use Rattle.qd_ring.specs.declared.plain.ValueFault.{ValueFault}
use Rattle.qd_ring.specs.declared.plain.ValueFault.TheVariants.{NotValue, Wide}
use Rattle.qd_ring.specs.CycArrays.{is_small}
use Rattle.qd_ring.specs.ValueReading.{coefficients_of}
use Rattle.qd_ring.specs.ValueOutcome.{IsRead}

-- in a row a token is a value where it begins with a digit or with `-`
abbrev pub begins_value : List ℕ → Bool
begins_value text = is_digit (slice_index text 0) || slice_index text 0 == 45

-- 42 coefficients: these, of which there are phi, and then zeros
abbrev pub padded : ℕ → List ℤ → List ℤ
padded phi front = front ++ replicate (42 - phi) (pos 0)

-- the value with these 42 coefficients
abbrev pub plain : List ℤ → Plain
plain cs = record { coefficients = cs }

-- the value with these coefficients, if there are any, and none is too great
abbrev pub small_value : ℕ → Option (List ℤ) → Result Plain ValueFault
small_value phi None = Err NotValue
small_value phi (Some front) = if is_small (padded phi front) then Ok (plain (padded phi front)) else Err Wide

-- the value with phi coefficients that a text spells, or why there is none
unfoldable pub value_of : ℕ → List ℕ → Result Plain ValueFault
value_of phi text =
    if pointwise nat_eq text (codes "0") then Ok (plain (replicate 42 (pos 0)))
    else small_value phi (coefficients_of phi 0 false text)

-- the coefficients of a value; zeros where there is none
abbrev pub plain_or_zeros : Result Plain ValueFault → List ℤ
plain_or_zeros (Ok p) = p.coefficients
plain_or_zeros (Err fault) = replicate 42 (pos 0)

-- the 42 coefficients of the value that a text spells
abbrev pub coefficients : ℕ → List ℕ → List ℤ
coefficients phi text = plain_or_zeros (value_of phi text)

-- what a token says is the value whose text it is; there is none exactly where it is the text of none, or
-- of one with a coefficient that is too great
abbrev pub ValuesAreSpelled : Type 0
ValuesAreSpelled = (phi : ℕ) (text : List ℕ) → phi ≤ 42 → IsRead text phi (value_of phi text)
