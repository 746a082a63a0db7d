-- One more digit of a number.
use Rattle.qd_text.proofs.Names.{◌≡◌, ℕ, ◌+◌, ◌-◌, ◌*◌, ◌<◌, ◌^◌, min, List, Bool, true, false, not, cond, nat_lt, Ok, Err, length, take, get_or, ap, sym, ◌∙◌, arith, fold_more, is_digit, value, number_of, list_all}
use Rattle.qd_text.specs.declared.natural.NumberFault.TheVariants.{NotNumber, Wide}

-- the value with one more digit
pub value-take_more : (digits : List ℕ) (i : ℕ) → i < length digits → value (take (i + 1) digits) ≡ value (take i digits) * 10 + (get_or digits i 0 - 48)
value-take_more digits i within = fold_more (λ value digit. value * 10 + (digit - 48)) 0 digits i 0 within

-- capping at each digit caps the whole
capped_step : (v d : ℕ) → min (min v (2 ^ 32) * 10 + d) (2 ^ 32) ≡ min (v * 10 + d) (2 ^ 32)
capped_step v d = omega arith

-- a capped value with one more digit
pub capped-take_more : (digits : List ℕ) (i capped : ℕ) → i < length digits → capped ≡ min (value (take i digits)) (2 ^ 32)
    → min (capped * 10 + (get_or digits i 0 - 48)) (2 ^ 32) ≡ min (value (take (i + 1) digits)) (2 ^ 32)
capped-take_more digits i capped within e =
    ap (λ c. min (c * 10 + (get_or digits i 0 - 48)) (2 ^ 32)) e
    ∙ capped_step (value (take i digits)) (get_or digits i 0 - 48)
    ∙ ap (λ v. min v (2 ^ 32)) (sym (value-take_more digits i within))

number_of-by : (text : List ℕ) (v : ℕ) (digits small : Bool) → cond (not digits) (Err NotNumber) (cond small (Ok (value text)) (Err Wide)) ≡ Ok v → v ≡ value text
number_of-by text v true true e = cc
number_of-by text v true false e = absurd cc
number_of-by text v false small e = absurd cc

-- the number of a token is the value of its digits
pub number_of-value : (text : List ℕ) (v : ℕ) → number_of text ≡ Ok v → v ≡ value text
unfolding number_of
number_of-value text v e = number_of-by text v (list_all is_digit text) (nat_lt (value text) (2 ^ 32)) e

-- what is known of the number of a token
pub ruleset values = (number_of-value)
