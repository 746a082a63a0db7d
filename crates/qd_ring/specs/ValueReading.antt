-- The steps by which the text of a value is read. What is read is said by the text of a value alone.
use Rattle.std.specs.Prelude.{ℕ, zero, suc, ◌+◌, ◌-◌, ◌*◌, ◌^◌, min, nat_le, ◌&&◌, ◌==◌, ℤ, pos, neg_ℤ, Bool, true, false, if◌then◌else◌, List, [], ◌∷◌, length, option_map, take, drop, fold, slice_index, Option, Some, None, option_and_then}
use Rattle.std.specs.List.{prefix_len}
use Rattle.qd_ring.specs.declared.value_reader.Term.{Term}

-- one of the ten digits of ASCII
abbrev pub is_digit : ℕ → Bool
is_digit byte = nat_le 48 byte && nat_le byte 57

-- the number that begins with the digits of `front` and goes on with these
abbrev pub number_after : ℕ → List ℕ → ℕ
number_after front digits = fold (λ n digit. n * 10 + (digit - 48)) front digits

-- the number that digits spell
abbrev pub number : List ℕ → ℕ
number digits = number_after 0 digits

-- the whole number with this sign and magnitude
abbrev pub signed : Bool → ℕ → ℤ
signed true n = neg_ℤ (pos n)
signed false n = pos n

-- how many bytes the sign of a term takes, where one stands
abbrev pub sign_len : Bool → List ℕ → Option ℕ
sign_len later text =
    if slice_index text 0 == 45 then Some 1
    else if later then (if slice_index text 0 == 43 then Some 1 else None)
    else Some 0

-- how many digits a numeral at the front has; it begins with a digit from 1 to 9
abbrev pub numeral_len : List ℕ → Option ℕ
numeral_len text = if nat_le 49 (slice_index text 0) && nat_le (slice_index text 0) 57 then Some (prefix_len is_digit text) else None

-- the power at the front, at most 42, and its bytes: none is the power 0
abbrev pub power_of : List ℕ → Option (ℕ × ℕ)
power_of text =
    if slice_index text 0 == 122 then option_and_then (λ digits. Some (min (number (take digits (drop 1 text))) 42, 1 + digits)) (numeral_len (drop 1 text))
    else Some (0, 0)

-- the term whose sign takes `sign` bytes before `rest`, its magnitude at most 2^120
unfoldable pub term_after_sign : Bool → ℕ → List ℕ → Option Term
term_after_sign negative sign rest =
    option_and_then (λ digits. option_and_then (λ (power : ℕ × ℕ). Some (record {
      coefficient = signed negative (min (number (take digits rest)) (2 ^ 120));
      power = power.0;
      len = sign + digits + power.1;
    })) (power_of (drop digits rest))) (numeral_len rest)

-- the term at the front; `later` says whether one stands before it
unfoldable pub term_of : Bool → List ℕ → Option Term
term_of later text = option_and_then (λ sign. term_after_sign (slice_index text 0 == 45) sign (drop sign text)) (sign_len later text)

-- the term at the front, where it has the power p
abbrev pub term_here : ℕ → Bool → List ℕ → Option Term
term_here p later text = option_and_then (λ (term : Term). if term.power == p then Some term else None) (term_of later text)

-- the coefficients of n powers from x^p on whose terms are the text, each at most 2^120 in magnitude; one term at least has to stand
unfoldable pub coefficients_of : ℕ → ℕ → Bool → List ℕ → Option (List ℤ)
coefficients_of zero p later text = if length text == 0 && later then Some [] else None
coefficients_of (suc n) p later text = elim (term_here p later text) [
  | Some term ↦ option_map (λ cs. term.coefficient ∷ cs) (coefficients_of n (suc p) true (drop term.len text))
  | None ↦ option_map (λ cs. pos 0 ∷ cs) (coefficients_of n (suc p) later text)
]
