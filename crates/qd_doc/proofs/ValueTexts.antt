-- The text of a value is one word of a row, and is read as the value.
use Rattle.qd_doc.proofs.Names.{Bool, IsValueOf, List, None, Ok, Spells, ValueRowClassOrEnd, [], and_parts, ap, arith, begins_value, cases_Bool, codes, digits_are_word, digits_numeral, drop, eqb-false, false, get_or, get_or_append_left, inl, inr, is_array, is_conductor, is_nought, is_plain, is_token_byte, le-leb, leading_numeral, length, length-append, length-drop, list_all, list_all-append, lt-ltb, nat_abs, nat_le, nat_lt, negsuc, numeral, numeral_nonempty, or_nought, part_of, phi_of, plain, plain_or_zeros, pos, power_text, refl, refusal, replicate, sign_text, subst, suc, sym, term_text, terms_nil, terms_nought, terms_term, terms_text, text, true, value_of, value_text, zero, ℕ, ℤ, ◌++◌, ◌-◌, ◌<◌, ◌==◌, ◌∙◌, ◌∷◌, ◌≡◌, ◌≤◌, ◌⊎◌}
use Rattle.std.proofs.Common.{eqb-true}
use Rattle.qd_doc.specs.declared.part.Part.TheVariants as parts
use Rattle.qd_doc.specs.declared.part.Stage.TheVariants as stages
use Rattle.qd_doc.proofs.Entries.{few_coefficients}
use Rattle.qd_doc.proofs.ValueWords.{value_is}

-- ---- the bytes of the text of a value

are_bytes : List ℕ → Bool
are_bytes text = list_all is_token_byte text

bytes-append : (a b : List ℕ) → are_bytes a ≡ true → are_bytes b ≡ true → are_bytes (a ++ b) ≡ true
unfolding are_bytes
bytes-append a b x y = list_all-append is_token_byte a b ∙ rw (x, y) refl

bytes-numeral : (n : ℕ) → 0 < n → are_bytes (numeral n) ≡ true
unfolding are_bytes
bytes-numeral n positive = digits_are_word (numeral n) (digits_numeral n positive)

bytes-sign : (later : Bool) (c : ℤ) → are_bytes (sign_text later c) ≡ true
unfolding are_bytes
bytes-sign true (pos n) = refl
bytes-sign false (pos n) = refl
bytes-sign later (negsuc n) = refl

bytes-power : (p : ℕ) → are_bytes (power_text p) ≡ true
unfolding are_bytes
bytes-power zero = refl
bytes-power (suc p) = bytes-append (codes "z") (numeral (suc p)) refl (bytes-numeral (suc p) (omega arith))

bytes-term : (later : Bool) (p : ℕ) (c : ℤ) → 0 < nat_abs c → are_bytes (term_text later p c) ≡ true
bytes-term later p c some =
    bytes-append (sign_text later c) (numeral (nat_abs c) ++ power_text p) (bytes-sign later c)
    (bytes-append (numeral (nat_abs c)) (power_text p) (bytes-numeral (nat_abs c) some) (bytes-power p))

some_of : (c : ℤ) → (nat_abs c == 0) ≡ false → 0 < nat_abs c
some_of c e = omega (arith, eqb-false (nat_abs c) 0 e)

bytes-terms : (later : Bool) (p : ℕ) (cs : List ℤ) → are_bytes (terms_text later p cs) ≡ true
unfolding are_bytes
bytes-terms later p [] = ap are_bytes (terms_nil later p)
bytes-terms later p (c ∷ cs) = elim (cases_Bool (nat_abs c == 0)) [
  | inl e ↦ ap are_bytes (terms_nought later p c cs e) ∙ bytes-terms later (suc p) cs
  | inr e ↦ ap are_bytes (terms_term later p c cs e) ∙ bytes-append (term_text later p c) (terms_text true (suc p) cs) (bytes-term later p c (some_of c e)) (bytes-terms true (suc p) cs)
]

bytes-or_nought : (text : List ℕ) → are_bytes text ≡ true → are_bytes (or_nought text) ≡ true
unfolding are_bytes
bytes-or_nought [] e = refl
bytes-or_nought (byte ∷ text) e = e

filled : (text : List ℕ) → nat_lt 0 (length (or_nought text)) ≡ true
filled [] = refl
filled (byte ∷ text) = lt-ltb 0 (length (byte ∷ text)) (omega arith)

pub plain-value : (cs : List ℤ) → is_plain (value_text cs) ≡ true
unfolding value_text are_bytes
plain-value cs =
    let bytes : list_all is_token_byte (or_nought (terms_text false 0 cs)) ≡ true = bytes-or_nought (terms_text false 0 cs) (bytes-terms false 0 cs) in
    rw (filled (terms_text false 0 cs), bytes) refl

-- ---- its first byte

begins-digit : (text more : List ℕ) → 0 < length text → 49 ≤ get_or text 0 0 → get_or text 0 0 ≤ 57 → begins_value (text ++ more) ≡ true
begins-digit [] more some low high = absurd (omega arith)
begins-digit (byte ∷ text) more some low high =
    let above : nat_le 48 byte ≡ true = le-leb 48 byte (omega arith) in
    let below : nat_le byte 57 ≡ true = le-leb byte 57 high in
    rw (above, below) refl

begins-term : (p : ℕ) (c : ℤ) (more : List ℕ) → 0 < nat_abs c → begins_value ((numeral (nat_abs c) ++ power_text p) ++ more) ≡ true
begins-term p c more some =
    let first = leading_numeral (nat_abs c) some in
    let long : 0 < length (numeral (nat_abs c)) = numeral_nonempty (nat_abs c) some in
    let same : get_or (numeral (nat_abs c) ++ power_text p) 0 0 ≡ get_or (numeral (nat_abs c)) 0 0 = get_or_append_left (numeral (nat_abs c)) (power_text p) 0 0 long in
    begins-digit (numeral (nat_abs c) ++ power_text p) more (omega (arith, length-append (numeral (nat_abs c)) (power_text p))) (omega (arith, same, first.low)) (omega (arith, same, first.high))

begins-signed : (p : ℕ) (c : ℤ) (more : List ℕ) → 0 < nat_abs c → begins_value (term_text false p c ++ more) ≡ true
begins-signed p (pos n) more some = begins-term p (pos n) more some
begins-signed p (negsuc n) more some = refl

begins-terms : (p : ℕ) (cs : List ℤ) → (terms_text false p cs ≡ []) ⊎ (begins_value (terms_text false p cs) ≡ true)
begins-terms p [] = inl (terms_nil false p)
begins-terms p (c ∷ cs) = elim (cases_Bool (nat_abs c == 0)) [
  | inl e ↦ subst (λ (t : List ℕ). (t ≡ []) ⊎ (begins_value t ≡ true)) (sym (terms_nought false p c cs e)) (begins-terms (suc p) cs)
  | inr e ↦ inr (ap begins_value (terms_term false p c cs e) ∙ begins-signed p c (terms_text true (suc p) cs) (some_of c e))
]

begins-or_nought : (text : List ℕ) → (text ≡ []) ⊎ (begins_value text ≡ true) → begins_value (or_nought text) ≡ true
begins-or_nought text (inl e) = ap (λ (t : List ℕ). begins_value (or_nought t)) e
begins-or_nought [] (inr e) = refl
begins-or_nought (byte ∷ text) (inr e) = e

pub begins-value_text : (cs : List ℤ) → begins_value (value_text cs) ≡ true
unfolding value_text
begins-value_text cs = begins-or_nought (terms_text false 0 cs) (begins-terms 0 cs)

-- ---- it is read

noughts_are : (xs : List ℤ) → list_all is_nought xs ≡ true → xs ≡ replicate (length xs) (pos 0)
noughts_are [] e = refl
noughts_are (pos n ∷ xs) e =
    let parts = and_parts (n == 0) (list_all is_nought xs) e in
    ap (λ (m : ℕ). pos m ∷ xs) (eqb-true n 0 parts.0) ∙ ap (λ ys. pos 0 ∷ ys) (noughts_are xs parts.1)
noughts_are (negsuc n ∷ xs) e = absurd cc

module _ (k : ℕ) (entry : is_conductor k ≡ true) (v : List ℤ) (is : IsValueOf k v) where
  spelled : Spells (value_text v) (phi_of k) v
  unfolding is_array
  spelled =
      let parts = and_parts (length v == 42) (list_all is_nought (drop (phi_of k) v)) is.0 in
      let count : length v ≡ 42 = eqb-true (length v) 42 parts.0 in
      record {
        count = count;
        ends = noughts_are (drop (phi_of k) v) parts.1 ∙ ap (λ n. replicate n (pos 0)) (length-drop (phi_of k) v ∙ ap (λ n. n - phi_of k) count);
        spelled = refl;
      }

  pub text_read : value_of (phi_of k) (value_text v) ≡ Ok (plain v)
  text_read = value_is (phi_of k) (value_text v) (few_coefficients k entry) (Ok (plain v)) (spelled, is.1)

  pub value_fits : (start : ℕ) → refusal (ValueRowClassOrEnd (phi_of k)) (record { start = start; text = value_text v }) ≡ None
  unfolding refusal
  value_fits start = rw (begins-value_text v, text_read) refl

  pub value_said : part_of (phi_of k) stages.Row (value_text v) ≡ parts.Value (plain v)
  value_said = rw (begins-value_text v) (ap (λ r. parts.Value (plain (plain_or_zeros r))) text_read)
