-- A number in decimal, read again.
use Rattle.qd_text.proofs.Names.{◌≡◌, ℕ, ◌+◌, ◌-◌, ◌*◌, ◌/◌, ◌%◌, ◌<◌, ◌≤◌, ◌^◌, Bool, true, false, ◌&&◌, ◌==◌, nat_le, nat_lt, List, [], ◌∷◌, ◌++◌, length, Ok, refl, ap, ◌∙◌, arith, length-append, list_all, list_all-append, fold-append, is_token_byte, is_digit, value, number_of}
use Rattle.std.specs.Fmt.{decimal}
use Rattle.std.proofs.lemmas.Fmt.{decimal_by_steps}
use Rattle.std.proofs.lemmas.Bool.{lt-ltb, le-leb, leb-true, ne_eqb}

and-true : (a b : Bool) → (a && b) ≡ true → (a ≡ true) × (b ≡ true)
and-true true b e = (refl, e)
and-true false b e = absurd cc

-- digits that spell a number
pub record Spells (n : ℕ) (digits : List ℕ) : Type 0 where
  pub digits_only : list_all is_digit digits ≡ true
  pub filled : 0 < length digits
  pub value_is : value digits ≡ n

digit_is : (d : ℕ) → d < 10 → is_digit (48 + d) ≡ true
digit_is d small =
    let low : nat_le 48 (48 + d) ≡ true = le-leb 48 (48 + d) (omega arith) in
    let high : nat_le (48 + d) 57 ≡ true = le-leb (48 + d) 57 (omega arith) in
    rw (low, high) refl

one_digit : (n : ℕ) → n < 10 → Spells n ((48 + n) ∷ [])
one_digit n small = record {
  digits_only = rw (digit_is n small) refl;
  filled = omega arith;
  value_is = omega arith;
}

more_digits : (n : ℕ) (digits : List ℕ) → 10 ≤ n → Spells (n / 10) digits → Spells n (digits ++ ((48 + n % 10) ∷ []))
more_digits n digits large front =
    let last : n % 10 < 10 = omega arith in
    let parts : n / 10 * 10 + n % 10 ≡ n = omega arith in
    let step : 48 + n % 10 - 48 ≡ n % 10 = omega arith in
    record {
      digits_only = rw (list_all-append is_digit digits ((48 + n % 10) ∷ []), front.digits_only, digit_is (n % 10) last) refl;
      filled = omega (arith, front.filled, length-append digits ((48 + n % 10) ∷ []));
      value_is = fold-append (λ value digit. value * 10 + (digit - 48)) 0 digits ((48 + n % 10) ∷ [])
          ∙ ap (λ v. v * 10 + (48 + n % 10 - 48)) front.value_is ∙ ap (λ d. n / 10 * 10 + d) step ∙ parts;
    }

pub decimal_spells : (n : ℕ) → n < 2 ^ 64 → Spells n (decimal n)
decimal_spells n small = decimal_by_steps Spells one_digit more_digits n small

-- a number in decimal is read again
pub number_of-decimal : (n : ℕ) → n < 2 ^ 32 → number_of (decimal n) ≡ Ok n
unfolding number_of
number_of-decimal n small =
    let spells = decimal_spells n (omega arith) in
    let fits : nat_lt n (2 ^ 32) ≡ true = lt-ltb n (2 ^ 32) small in
    rw (spells.digits_only, spells.value_is, fits) refl

-- ---- digits are no separators

digit_no_separator : (byte : ℕ) → is_digit byte ≡ true → is_token_byte byte ≡ true
digit_no_separator byte digit =
    let both = and-true (nat_le 48 byte) (nat_le byte 57) digit in
    let low : 48 ≤ byte = leb-true 48 byte both.0 in
    let space : byte == 32 ≡ false = ne_eqb byte 32 (omega arith) in
    let tab : byte == 9 ≡ false = ne_eqb byte 9 (omega arith) in
    let feed : byte == 10 ≡ false = ne_eqb byte 10 (omega arith) in
    let return : byte == 13 ≡ false = ne_eqb byte 13 (omega arith) in
    let hash : byte == 35 ≡ false = ne_eqb byte 35 (omega arith) in
    rw (space, tab, feed, return, hash) refl

pub digits_are_word : (digits : List ℕ) → list_all is_digit digits ≡ true → list_all is_token_byte digits ≡ true
digits_are_word [] all = refl
digits_are_word (byte ∷ digits) all =
    let both = and-true (is_digit byte) (list_all is_digit digits) all in
    rw (digit_no_separator byte both.0, digits_are_word digits both.1) refl
