-- Numerals: positive numbers in decimal, written and read.
use Rattle.qd_ring.proofs.Names.{◌≡◌, ℕ, zero, suc, ◌+◌, ◌-◌, ◌*◌, ◌/◌, ◌%◌, ◌<◌, ◌≤◌, Bool, true, false, List, [], ◌∷◌, ◌++◌, length, take, get_or, refl, ap, sym, subst, ◌∙◌, inl, inr, arith, leb, append-nil, cond, one-add, cases_lt, and_parts, and_from, le-leb, leb-true, list_all, prefix_len, append_assoc, numeral, is_digit, number, number_after}
use Rattle.std.proofs.lemmas.List.Folds.{list_all-append}
use Rattle.qd_ring.proofs.Fronts.{numeral_step, numeral_digit}

-- what holds of one digit, and with one more digit at the end, holds of each numeral
numeral_by_steps : (P : ℕ → List ℕ → Type 0) (one : (n : ℕ) → 0 < n → n < 10 → P n ((48 + n) ∷ [])) (more : (n : ℕ) (ds : List ℕ) → 10 ≤ n → P (n / 10) ds → P n (ds ++ ((48 + n % 10) ∷ []))) → (fuel n : ℕ) → n ≤ fuel → 0 < n → P n (numeral n)
numeral_by_steps P one more zero n h p = absurd (omega arith)
numeral_by_steps P one more (suc fuel) n h p = elim (cases_lt n 10) [
  | inl small ↦ subst (P n) (sym (numeral_digit n p small)) (one n p small)
  | inr big ↦ subst (P n) (sym (numeral_step n p)) (more n (numeral (n / 10)) big (numeral_by_steps P one more fuel (n / 10) (omega arith) (omega arith)))
]

digit_byte : (d : ℕ) → d < 10 → is_digit (48 + d) ≡ true
digit_byte d h = and_from (leb 48 (48 + d)) (leb (48 + d) 57) (le-leb 48 (48 + d) (omega arith)) (le-leb (48 + d) 57 (omega arith))

pub digits_numeral : (n : ℕ) → 0 < n → list_all is_digit (numeral n) ≡ true
digits_numeral n p = numeral_by_steps (λ k ds. list_all is_digit ds ≡ true) (λ k positive small. simp (digit_byte k small)) more n n (omega arith) p
  where
    more : (k : ℕ) (ds : List ℕ) → 10 ≤ k → list_all is_digit ds ≡ true → list_all is_digit (ds ++ ((48 + k % 10) ∷ [])) ≡ true
    more k ds big h = list_all-append is_digit ds ((48 + k % 10) ∷ []) ∙ and_from (list_all is_digit ds) (list_all is_digit ((48 + k % 10) ∷ [])) h (simp (digit_byte (k % 10) (omega arith)))

number_push : (front : ℕ) (ds : List ℕ) (c : ℕ) → number_after front (ds ++ c ∷ []) ≡ number_after front ds * 10 + (c - 48)
number_push front [] c = refl
number_push front (d ∷ ds) c = number_push (front * 10 + (d - 48)) ds c

pub number_numeral : (n : ℕ) → 0 < n → number (numeral n) ≡ n
number_numeral n p = numeral_by_steps (λ k ds. number ds ≡ k) (λ k positive small. omega arith) more n n (omega arith) p
  where
    more : (k : ℕ) (ds : List ℕ) → 10 ≤ k → number ds ≡ k / 10 → number (ds ++ ((48 + k % 10) ∷ [])) ≡ k
    more k ds big h = number_push 0 ds (48 + k % 10) ∙ ap (λ m. m * 10 + (48 + k % 10 - 48)) h ∙ omega arith

-- a byte from `1` to `9`
pub record IsLeading (byte : ℕ) : Type 0 where
  pub low : 49 ≤ byte
  pub high : byte ≤ 57

pub leading_numeral : (n : ℕ) → 0 < n → IsLeading (get_or (numeral n) 0 0)
leading_numeral n p = numeral_by_steps (λ k ds. IsLeading (get_or ds 0 0)) (λ k positive small. record { low = omega arith; high = omega arith }) more n n (omega arith) p
  where
    more : (k : ℕ) (ds : List ℕ) → 10 ≤ k → IsLeading (get_or ds 0 0) → IsLeading (get_or (ds ++ ((48 + k % 10) ∷ [])) 0 0)
    more k [] big h = absurd (omega (arith, h.low))
    more k (d ∷ ds) big h = h

-- digits after a positive number are its numeral's further digits
numeral_after : (n : ℕ) (ds : List ℕ) → 0 < n → list_all is_digit ds ≡ true → numeral (number_after n ds) ≡ numeral n ++ ds
numeral_after n [] p h = sym (append-nil (numeral n))
numeral_after n (d ∷ ds) p h =
    let parts = and_parts (is_digit d) (list_all is_digit ds) h in
    let bounds = and_parts (leb 48 d) (leb d 57) parts.0 in
    let low : 48 ≤ d = leb-true 48 d bounds.0 in
    let high : d ≤ 57 = leb-true d 57 bounds.1 in
    let front : (n * 10 + (d - 48)) / 10 ≡ n = omega arith in
    let last : 48 + (n * 10 + (d - 48)) % 10 ≡ d = omega arith in
    numeral_after (n * 10 + (d - 48)) ds (omega arith) parts.1
    ∙ ap (λ t. t ++ ds) (numeral_step (n * 10 + (d - 48)) (omega arith) ∙ ap (λ k. numeral k ++ (48 + (n * 10 + (d - 48)) % 10) ∷ []) front ∙ ap (λ k. numeral n ++ k ∷ []) last)
    ∙ append_assoc (numeral n) (d ∷ []) ds

-- digits that begin with one from 1 to 9 are the numeral of their number
pub numeral_number : (d : ℕ) (ds : List ℕ) → IsLeading d → list_all is_digit ds ≡ true → numeral (number (d ∷ ds)) ≡ d ∷ ds
numeral_number d ds lead h =
    let first : 0 * 10 + (d - 48) ≡ d - 48 = omega arith in
    let positive : 0 < d - 48 = omega (arith, lead.low) in
    let byte : 48 + (d - 48) ≡ d = omega (arith, lead.low) in
    ap (λ k. numeral (number_after k ds)) first ∙ numeral_after (d - 48) ds positive h
    ∙ ap (λ t. t ++ ds) (numeral_digit (d - 48) positive (omega (arith, lead.high))) ∙ ap (λ k. k ∷ ds) byte

number_grows : (n : ℕ) (ds : List ℕ) → n ≤ number_after n ds
number_grows n [] = omega arith
number_grows n (d ∷ ds) = omega (arith, number_grows (n * 10 + (d - 48)) ds)

pub number_positive : (d : ℕ) (ds : List ℕ) → IsLeading d → 0 < number (d ∷ ds)
number_positive d ds lead = omega (arith, number_grows (0 * 10 + (d - 48)) ds, lead.low)

-- the digits at the front
pub digits_front : (ds tail : List ℕ) → list_all is_digit ds ≡ true → is_digit (get_or tail 0 0) ≡ false → prefix_len is_digit (ds ++ tail) ≡ length ds
digits_front [] [] h e = refl
digits_front [] (c ∷ tail) h e = ap (λ b. cond b (1 + prefix_len is_digit tail) 0) e
digits_front (d ∷ ds) tail h e =
    let parts = and_parts (is_digit d) (list_all is_digit ds) h in
    ap (λ b. cond b (1 + prefix_len is_digit (ds ++ tail)) 0) parts.0 ∙ ap (λ k. 1 + k) (digits_front ds tail parts.1 e) ∙ one-add (length ds)

pub digits_taken : (text : List ℕ) → list_all is_digit (take (prefix_len is_digit text) text) ≡ true
digits_taken [] = refl
digits_taken (c ∷ text) = by (is_digit c) refl (digits_taken text)
  where
    by : (b : Bool) → is_digit c ≡ b → list_all is_digit (take (prefix_len is_digit text) text) ≡ true → list_all is_digit (take (cond b (1 + prefix_len is_digit text) 0) (c ∷ text)) ≡ true
    by true e h = rw (one-add (prefix_len is_digit text)) (and_from (is_digit c) (list_all is_digit (take (prefix_len is_digit text) text)) e h)
    by false e h = refl
