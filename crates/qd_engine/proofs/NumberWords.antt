-- What std's `parse` reads of digits is their value as the number of a token.
use Rattle.qd_engine.proofs.Names.{◌≡◌, ℕ, ◌^◌, ◌<◌, Bool, true, false, ◌&&◌, cond, List, length, Some, None, Result, Ok, Err, refl, sym, ap, ◌∙◌, list_all, le-leb, leb-true, lt-ltb, ltb-true, number_of, NumberFault}
use Rattle.std.proofs.Common.{nat_le, nat_lt}
use Rattle.std.specs.Result.{result_ok, OkIff}
use Rattle.std.specs.Str.Parse.{ParsesUnsigned}
use Rattle.std.proofs.lemmas.Str.Parse.{IsDigitsTest, IsNumeralModel, numerals_by_fold, parse_digits}
use Rattle.qd_text.specs.Numbers.{is_digit, value_after, value}
use Rattle.qd_text.specs.declared.natural.NumberFault.TheVariants.{Wide}
use Rattle.std.specs.Int.{IsInRange}

both : (a b : Bool) → (a && b) ≡ true → (a ≡ true) × (b ≡ true)
both true true e = (refl, refl)
both true false e = absurd cc
both false b e = absurd cc

in_range : (c : ℕ) → is_digit c ≡ true → IsInRange 48 57 c
in_range c e = let k = both (nat_le 48 c) (nat_le c 57) e in (leb-true 48 c k.0, leb-true c 57 k.1)

digits_test : IsDigitsTest (λ ds. list_all is_digit ds ≡ true)
digits_test = record {
  empty = refl;
  parts = λ c cs e. let k = both (is_digit c) (list_all is_digit cs) e in (in_range c k.0, k.1);
  more = λ c cs k e i. (le-leb 48 c k.0 i && le-leb c 57 k.1 i) && e i;
}

own : IsNumeralModel (λ ds. list_all is_digit ds ≡ true) value
own = numerals_by_fold _ digits_test value_after (record { empty = λ n. refl; more = λ n c cs k. refl })

-- the same where the value is below 2 ^ 32 and where it isn't
by_value : {E : Type 0} (filled : Type 0) (v : ℕ) (r : Result ℕ E) → filled → OkIff r (filled × (v < 2 ^ 32)) v → (small : Bool) → nat_lt v (2 ^ 32) ≡ small
    → result_ok r ≡ result_ok {E = NumberFault} (cond small (Ok v) (Err Wide))
by_value filled v (Ok x) some iff true e = ap Some iff.1
by_value filled v (Ok x) some iff false e = let wrong : true ≡ false = sym (lt-ltb v (2 ^ 32) iff.0.1) ∙ e in absurd cc
by_value filled v (Err fault) some iff true e = absurd (iff (some, ltb-true v (2 ^ 32) e))
by_value filled v (Err fault) some iff false e = refl

-- std reads digits as the number of a token
pub parse_is_number : {E : Type 0} (text : List ℕ) (r : Result ℕ E) → ParsesUnsigned 32 10 text r → list_all is_digit text ≡ true → 0 < length text
    → result_ok r ≡ result_ok (number_of text)
unfolding number_of
parse_is_number text r parses digits filled =
    rw digits (by_value (0 < length text) (value text) r filled (parse_digits own 32 text r parses digits) (nat_lt (value text) (2 ^ 32)) refl)

pub no_number : (text : List ℕ) → list_all is_digit text ≡ false → result_ok (number_of text) ≡ None
unfolding number_of
no_number text e = rw e refl
