-- The tokens of a text that is written word by word.
use Rattle.qd_text.proofs.Names.{◌≡◌, ℕ, ◌+◌, ◌<◌, Bool, true, false, ◌&&◌, ◌==◌, cond, nat_lt, List, [], ◌∷◌, ◌++◌, length, map, refl, ap, sym, ◌∙◌, list_all, take_while, is_blank, is_token_byte, is_mark, blanked, Lexeme, runs, tokens}
use Rattle.qd_text.proofs.Lexemes.{runs-cons, runs-nil, blanked-nil, runs-word_rest, skip_front}

-- the bytes of a token
abbrev pub text : Lexeme → List ℕ
text token = token.text

map_cond : (b : Bool) (xs ys : List Lexeme) → map text (cond b xs ys) ≡ cond b (map text xs) (map text ys)
map_cond true xs ys = refl
map_cond false xs ys = refl

texts-cons : (follows : Bool) (offset byte : ℕ) (bytes : List ℕ) → map text (runs follows offset (byte ∷ bytes))
    ≡ cond (is_blank byte) (map text (runs false (offset + 1) bytes))
    (cond follows (map text (runs true (offset + 1) bytes)) (take_while is_mark (byte ∷ bytes) ∷ map text (runs true (offset + 1) bytes)))
texts-cons follows offset byte bytes =
    let first : Lexeme = record { start = offset; text = take_while is_mark (byte ∷ bytes) } in
    ap (map text) (runs-cons follows offset byte bytes)
    ∙ map_cond (is_blank byte) (runs false (offset + 1) bytes) (cond follows (runs true (offset + 1) bytes) (first ∷ runs true (offset + 1) bytes))
    ∙ ap (λ rest. cond (is_blank byte) (map text (runs false (offset + 1) bytes)) rest) (map_cond follows (runs true (offset + 1) bytes) (first ∷ runs true (offset + 1) bytes))

-- the texts of tokens don't depend on where the bytes stand
texts-offset : (follows : Bool) (a b : ℕ) (bytes : List ℕ) → map text (runs follows a bytes) ≡ map text (runs follows b bytes)
texts-offset follows a b [] = ap (map text) (runs-nil follows a) ∙ sym (ap (map text) (runs-nil follows b))
texts-offset follows a b (byte ∷ bytes) =
    rw (texts-cons follows a byte bytes, texts-cons follows b byte bytes, texts-offset false (a + 1) (b + 1) bytes, texts-offset true (a + 1) (b + 1) bytes) refl

-- the words of a text
abbrev pub words_of : List ℕ → List (List ℕ)
words_of bytes = map text (tokens bytes)

pub words_of-nil : words_of [] ≡ []
words_of-nil = ap (λ bytes. map text (runs false 0 bytes)) (blanked-nil false) ∙ ap (map text) (runs-nil false 0)

-- a blank at the front
pub words_of-blank : (blank offset : ℕ) (rest : List ℕ) → is_blank blank ≡ true → blank == 35 ≡ false → map text (runs false offset (blanked false (blank ∷ rest))) ≡ words_of rest
words_of-blank blank offset rest is hash =
    ap (map text) (skip_front false offset blank rest (rw is refl))
    ∙ ap (λ inside. map text (runs false (offset + 1) (blanked inside rest))) hash
    ∙ texts-offset false (offset + 1) 0 (blanked false rest)

-- a word and a blank
pub words_of-word : (word : List ℕ) (blank : ℕ) (rest : List ℕ) → 0 < length word → list_all is_token_byte word ≡ true → is_blank blank ≡ true → blank == 35 ≡ false
    → words_of (word ++ blank ∷ rest) ≡ word ∷ words_of rest
words_of-word word blank rest filled plain is hash =
    ap (map text) (runs-word_rest 0 word (blank ∷ rest) filled plain (rw is refl))
    ∙ ap (λ more. word ∷ more) (words_of-blank blank (0 + length word) rest is hash)

-- a word of token bytes
abbrev pub is_plain : List ℕ → Bool
is_plain word = nat_lt 0 (length word) && list_all is_token_byte word
