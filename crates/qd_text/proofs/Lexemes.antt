-- Tokens, one after the other.
use Rattle.qd_text.proofs.Names.{◌≡◌, ℕ, suc, ◌+◌, ◌-◌, ◌<◌, ◌≤◌, Bool, true, false, not, ◌&&◌, ◌||◌, ◌==◌, cond, List, [], ◌∷◌, ◌++◌, length, take, drop, get_or, refl, ap, sym, ◌∙◌, arith, add-one, add-zero, drop-cons, length-drop, prefix_len, take_while, list_all, length-prefix_len, take_while-cons, prefix_len-le-length, is_blank, is_separator, is_token_byte, is_mark, in_comment, blanked, runs, tokens_from}
use Rattle.std.proofs.lemmas.List.{drop_all, take_all, drop-drop, take-append-drop, get_or-drop}

pub runs-nil : (follows : Bool) (offset : ℕ) → runs follows offset [] ≡ []
unfolding runs
runs-nil follows offset = refl

pub runs-cons : (follows : Bool) (offset byte : ℕ) (bytes : List ℕ) → runs follows offset (byte ∷ bytes)
    ≡ cond (is_blank byte) (runs false (offset + 1) bytes)
    (cond follows (runs true (offset + 1) bytes)
    ((record { start = offset; text = take_while is_mark (byte ∷ bytes) }) ∷ runs true (offset + 1) bytes))
unfolding runs
runs-cons follows offset byte bytes = refl

pub blanked-nil : (inside : Bool) → blanked inside [] ≡ []
unfolding blanked
blanked-nil inside = refl

pub blanked-cons : (inside : Bool) (byte : ℕ) (bytes : List ℕ) → blanked inside (byte ∷ bytes) ≡ (cond (inside || byte == 35) 32 byte) ∷ blanked (in_comment inside byte) bytes
unfolding blanked
blanked-cons inside byte bytes = refl

runs-blank : (follows : Bool) (offset byte : ℕ) (bytes : List ℕ) → is_blank byte ≡ true → runs follows offset (byte ∷ bytes) ≡ runs false (offset + 1) bytes
runs-blank follows offset byte bytes blank = rw (runs-cons follows offset byte bytes, blank) refl

runs-follows : (offset byte : ℕ) (bytes : List ℕ) → is_blank byte ≡ false → runs true offset (byte ∷ bytes) ≡ runs true (offset + 1) bytes
runs-follows offset byte bytes mark = rw (runs-cons true offset byte bytes, mark) refl

runs-begins : (offset byte : ℕ) (bytes : List ℕ) → is_blank byte ≡ false
    → runs false offset (byte ∷ bytes) ≡ (record { start = offset; text = take_while is_mark (byte ∷ bytes) }) ∷ runs true (offset + 1) bytes
runs-begins offset byte bytes mark = rw (runs-cons false offset byte bytes, mark) refl

-- ---- what is skipped

or-false : (a b : Bool) → (a || b) ≡ false → (a ≡ false) × (b ≡ false)
or-false true b e = absurd cc
or-false false b e = (refl, e)

or-true : (a b : Bool) → (a || b) ≡ true → b ≡ false → a ≡ true
or-true true b e f = refl
or-true false b e f = absurd cc

skip_byte : (offset byte : ℕ) (bytes : List ℕ) (hash : Bool) → byte == 35 ≡ hash → is_separator byte ≡ true
    → runs false offset ((cond hash 32 byte) ∷ blanked hash bytes) ≡ runs false (offset + 1) (blanked hash bytes)
skip_byte offset byte bytes true e separates = runs-blank false offset 32 _ refl
skip_byte offset byte bytes false e separates = runs-blank false offset byte _ (or-true (is_blank byte) (byte == 35) separates e)

-- a byte of a comment, or a separator, is no part of a token
pub skip_front : (inside : Bool) (offset byte : ℕ) (bytes : List ℕ) → (inside || is_separator byte) ≡ true
    → runs false offset (blanked inside (byte ∷ bytes)) ≡ runs false (offset + 1) (blanked (in_comment inside byte) bytes)
skip_front true offset byte bytes skipped = rw (blanked-cons true byte bytes) (runs-blank false offset 32 _ refl)
skip_front false offset byte bytes skipped = rw (blanked-cons false byte bytes) (skip_byte offset byte bytes (byte == 35) refl skipped)

drop_here : (offset : ℕ) (bytes : List ℕ) → offset < length bytes → drop offset bytes ≡ get_or bytes offset 0 ∷ drop (offset + 1) bytes
drop_here offset bytes within = rw (add-one offset, drop-cons bytes offset 0) refl

pub skip_at : (inside : Bool) (offset : ℕ) (bytes : List ℕ) → offset < length bytes → (inside || is_separator (get_or bytes offset 0)) ≡ true
    → runs false offset (blanked inside (drop offset bytes)) ≡ runs false (offset + 1) (blanked (in_comment inside (get_or bytes offset 0)) (drop (offset + 1) bytes))
skip_at inside offset bytes within skipped =
    rw (drop_here offset bytes within) (skip_front inside offset (get_or bytes offset 0) (drop (offset + 1) bytes) skipped)

-- ---- a token

-- bytes that begin no further token byte: none are left, or a separator is the first
abbrev pub BeginsApart : List ℕ → Type 0
BeginsApart [] = Unit {0}
BeginsApart (byte ∷ bytes) = is_separator byte ≡ true

after_word-by : (offset byte : ℕ) (bytes : List ℕ) (hash : Bool) → byte == 35 ≡ hash → is_separator byte ≡ true
    → runs true offset ((cond hash 32 byte) ∷ bytes) ≡ runs false offset ((cond hash 32 byte) ∷ bytes)
after_word-by offset byte bytes true e separates = runs-blank true offset 32 bytes refl ∙ sym (runs-blank false offset 32 bytes refl)
after_word-by offset byte bytes false e separates =
    let blank : is_blank byte ≡ true = or-true (is_blank byte) (byte == 35) separates e in
    runs-blank true offset byte bytes blank ∙ sym (runs-blank false offset byte bytes blank)

-- where a separator stands, it doesn't matter whether a token byte stood before it
after_word : (offset byte : ℕ) (bytes : List ℕ) → is_separator byte ≡ true
    → runs true offset (blanked false (byte ∷ bytes)) ≡ runs false offset (blanked false (byte ∷ bytes))
after_word offset byte bytes separates =
    rw (blanked-cons false byte bytes) (after_word-by offset byte (blanked (in_comment false byte) bytes) (byte == 35) refl separates)

pub and-true : (a b : Bool) → (a && b) ≡ true → (a ≡ true) × (b ≡ true)
and-true true b e = (refl, e)
and-true false b e = absurd cc

not-true : (a : Bool) → not a ≡ true → a ≡ false
not-true true e = absurd cc
not-true false e = refl

blanked-token_byte : (byte : ℕ) (bytes : List ℕ) → is_token_byte byte ≡ true → blanked false (byte ∷ bytes) ≡ byte ∷ blanked false bytes
blanked-token_byte byte bytes h =
    let hash : byte == 35 ≡ false = (or-false (is_blank byte) (byte == 35) (not-true (is_separator byte) h)).1 in
    rw (blanked-cons false byte bytes, hash) refl

is_blank-token_byte : (byte : ℕ) → is_token_byte byte ≡ true → is_blank byte ≡ false
is_blank-token_byte byte h = (or-false (is_blank byte) (byte == 35) (not-true (is_separator byte) h)).0

blanked-word : (word rest : List ℕ) → list_all is_token_byte word ≡ true → blanked false (word ++ rest) ≡ word ++ blanked false rest
blanked-word [] rest h = refl
blanked-word (byte ∷ word) rest h =
    let both = and-true (is_token_byte byte) (list_all is_token_byte word) h in
    blanked-token_byte byte (word ++ rest) both.0 ∙ ap (λ bytes. byte ∷ bytes) (blanked-word word rest both.1)

-- after a word that no further token byte follows, tokens begin anew
runs-word : (offset : ℕ) (word rest : List ℕ) → list_all is_token_byte word ≡ true → BeginsApart rest
    → runs true offset (word ++ blanked false rest) ≡ runs false (offset + length word) (blanked false rest)
runs-word offset [] [] h apart = rw (blanked-nil false) (runs-nil true offset ∙ sym (runs-nil false (offset + 0)))
runs-word offset [] (byte ∷ rest) h apart = rw (add-zero offset) (after_word offset byte rest apart)
runs-word offset (byte ∷ word) rest h apart =
    let both = and-true (is_token_byte byte) (list_all is_token_byte word) h in
    runs-follows offset byte (word ++ blanked false rest) (is_blank-token_byte byte both.0)
    ∙ runs-word (offset + 1) word rest both.1 apart
    ∙ ap (λ at. runs false at (blanked false rest)) (omega arith)

no_mark : (byte : ℕ) (bytes : List ℕ) (hash : Bool) → byte == 35 ≡ hash → is_separator byte ≡ true → take_while is_mark ((cond hash 32 byte) ∷ bytes) ≡ []
no_mark byte bytes true e separates = refl
no_mark byte bytes false e separates =
    let blank : is_blank byte ≡ true = or-true (is_blank byte) (byte == 35) separates e in
    take_while-cons is_mark byte bytes ∙ ap (λ b. cond (not b) (byte ∷ take_while is_mark bytes) []) blank

take_while-word : (word rest : List ℕ) → list_all is_token_byte word ≡ true → BeginsApart rest → take_while is_mark (word ++ blanked false rest) ≡ word
take_while-word [] [] h apart = rw (blanked-nil false) refl
take_while-word [] (byte ∷ rest) h apart = rw (blanked-cons false byte rest) (no_mark byte (blanked (in_comment false byte) rest) (byte == 35) refl apart)
take_while-word (byte ∷ word) rest h apart =
    let both = and-true (is_token_byte byte) (list_all is_token_byte word) h in
    take_while-cons is_mark byte (word ++ blanked false rest)
    ∙ ap (λ b. cond (not b) (byte ∷ take_while is_mark (word ++ blanked false rest)) []) (is_blank-token_byte byte both.0)
    ∙ ap (λ bytes. byte ∷ bytes) (take_while-word word rest both.1 apart)

-- a word that no further token byte follows is the first token
pub runs-word_rest : (offset : ℕ) (word rest : List ℕ) → 0 < length word → list_all is_token_byte word ≡ true → BeginsApart rest
    → runs false offset (blanked false (word ++ rest)) ≡ (record { start = offset; text = word }) ∷ runs false (offset + length word) (blanked false rest)
runs-word_rest offset [] rest filled h apart = absurd (omega arith)
runs-word_rest offset (byte ∷ word) rest filled h apart =
    let both = and-true (is_token_byte byte) (list_all is_token_byte word) h in
    let text : take_while is_mark (byte ∷ (word ++ blanked false rest)) ≡ byte ∷ word = take_while-word (byte ∷ word) rest h apart in
    let later : runs true (offset + 1) (word ++ blanked false rest) ≡ runs false (offset + length (byte ∷ word)) (blanked false rest) =
    runs-word (offset + 1) word rest both.1 apart ∙ ap (λ at. runs false at (blanked false rest)) (omega arith) in
    rw (blanked-word (byte ∷ word) rest h, runs-begins offset byte (word ++ blanked false rest) (is_blank-token_byte byte both.0), text, later) refl

-- past the end nothing is left, whether or not a comment is open
pub nothing_left : (inside : Bool) (offset : ℕ) (bytes : List ℕ) → length bytes ≤ offset → runs false offset (blanked inside (drop offset bytes)) ≡ []
nothing_left inside offset bytes end = rw (drop_all offset bytes end, blanked-nil inside) (runs-nil false offset)

-- ---- the first token of a text

not-false : (a : Bool) → not a ≡ false → a ≡ true
not-false true e = refl
not-false false e = absurd cc

one_plus : (n : ℕ) → 1 + n ≡ suc n
one_plus n = omega arith

-- how many token bytes stand at the front
abbrev pub front_len : List ℕ → ℕ
front_len bytes = prefix_len is_token_byte bytes

apart-by : (byte : ℕ) (bytes : List ℕ) (b : Bool) → is_token_byte byte ≡ b → BeginsApart (drop (front_len bytes) bytes)
    → BeginsApart (drop (cond b (1 + front_len bytes) 0) (byte ∷ bytes))
apart-by byte bytes true e apart = rw (one_plus (front_len bytes)) apart
apart-by byte bytes false e apart = not-false (is_separator byte) e

-- what follows the token bytes at the front begins apart
apart : (bytes : List ℕ) → BeginsApart (drop (front_len bytes) bytes)
apart [] = tt
apart (byte ∷ bytes) = apart-by byte bytes (is_token_byte byte) refl (apart bytes)

word-by : (byte : ℕ) (bytes : List ℕ) (b : Bool) → is_token_byte byte ≡ b → list_all is_token_byte (take (front_len bytes) bytes) ≡ true
    → list_all is_token_byte (take (cond b (1 + front_len bytes) 0) (byte ∷ bytes)) ≡ true
word-by byte bytes true e word = rw (one_plus (front_len bytes), e) word
word-by byte bytes false e word = refl

word : (bytes : List ℕ) → list_all is_token_byte (take (front_len bytes) bytes) ≡ true
word [] = refl
word (byte ∷ bytes) = word-by byte bytes (is_token_byte byte) refl (word bytes)

filled-by : (bytes : List ℕ) → 0 < length bytes → is_separator (get_or bytes 0 0) ≡ false → 0 < front_len bytes
filled-by [] some begins = absurd (omega arith)
filled-by (byte ∷ bytes) some begins = rw begins (omega arith)

pub filled_at : (bytes : List ℕ) (start : ℕ) → start < length bytes → is_separator (get_or bytes start 0) ≡ false → 0 < front_len (drop start bytes)
filled_at bytes start within begins =
    filled-by (drop start bytes) (omega (arith, length-drop start bytes)) (ap is_separator (get_or-drop start bytes 0 0 ∙ ap (λ i. get_or bytes i 0) (add-zero start)) ∙ begins)

-- the tokens from the first byte of a token on are it, and those from its end on
pub token_at : (bytes : List ℕ) (start : ℕ) → start < length bytes → is_separator (get_or bytes start 0) ≡ false
    → tokens_from start bytes ≡ (record { start = start; text = take (front_len (drop start bytes)) (drop start bytes) }) ∷ tokens_from (start + front_len (drop start bytes)) bytes
token_at bytes start within begins =
    let left = drop start bytes in
    let n = front_len left in
    let len : length (take n left) ≡ n = length-prefix_len is_token_byte left in
    let filled : 0 < length (take n left) = rw len (filled_at bytes start within begins) in
    ap (λ text. runs false start (blanked false text)) (sym (take-append-drop n left))
    ∙ runs-word_rest start (take n left) (drop n left) filled (word left) (apart left)
    ∙ ap (λ k. (record { start = start; text = take n left }) ∷ runs false (start + k) (blanked false (drop n left))) len
    ∙ ap (λ rest. (record { start = start; text = take n left }) ∷ runs false (start + n) (blanked false rest)) (drop-drop n start bytes)

-- a token ends within the bytes
pub token_ends : (bytes : List ℕ) (start : ℕ) → start < length bytes → start + front_len (drop start bytes) ≤ length bytes
token_ends bytes start within = omega (arith, prefix_len-le-length is_token_byte (drop start bytes), length-drop start bytes)

-- how many token bytes stand at the front of a slice that goes on to the end
pub front_len-slice : (bytes : List ℕ) (start : ℕ) → front_len (take (length bytes - start) (drop start bytes)) ≡ front_len (drop start bytes)
front_len-slice bytes start = ap front_len (take_all (length bytes - start) (drop start bytes) (omega (arith, length-drop start bytes)))
