-- The tokens of a text, each with the offset of its first byte.
use Rattle.std.specs.Prelude.{ℕ, ◌+◌, ◌<◌, ◌≤◌, Bool, true, false, not, ◌||◌, ◌==◌, if◌then◌else◌, List, [], ◌∷◌, length, take, drop}
use Rattle.std.specs.List.{take_while}
use Rattle.qd_text.specs.declared.token.Token.{Token}

-- space, tab, line feed or carriage return
abbrev pub is_blank : ℕ → Bool
is_blank byte = byte == 32 || byte == 9 || byte == 10 || byte == 13

-- blanks, and the number sign that begins a comment: what parts one token from the next
abbrev pub is_separator : ℕ → Bool
is_separator byte = is_blank byte || byte == 35

-- any other byte
abbrev pub is_token_byte : ℕ → Bool
is_token_byte byte = not (is_separator byte)

-- no blank
abbrev pub is_mark : ℕ → Bool
is_mark byte = not (is_blank byte)

-- whether a comment is open after a byte, where `inside` says whether one is before it: a comment
-- begins with a number sign wherever it stands, and runs to the next line feed
abbrev pub in_comment : Bool → ℕ → Bool
in_comment true byte = not (byte == 10)
in_comment false byte = byte == 35

-- the bytes with each comment written as spaces, so that offsets stay
unfoldable pub blanked : Bool → List ℕ → List ℕ
blanked inside [] = []
blanked inside (byte ∷ bytes) =
    (if inside || byte == 35 then 32 else byte) ∷ blanked (in_comment inside byte) bytes

-- a token: the offset of its first byte, and its bytes
pub record Lexeme : Type 0 where
  pub start : ℕ
  pub text : List ℕ

-- the tokens of bytes that have no comment: one begins at each byte that is no blank and follows no
-- such byte, and is the longest run from there. `offset` is that of the first of the bytes; `follows`
-- says whether a byte that is no blank stands before it
unfoldable pub runs : Bool → ℕ → List ℕ → List Lexeme
runs follows offset [] = []
runs follows offset (byte ∷ bytes) =
    if is_blank byte then runs false (offset + 1) bytes
    else if follows then runs true (offset + 1) bytes
    else record { start = offset; text = take_while is_mark (byte ∷ bytes) } ∷ runs true (offset + 1) bytes

-- the tokens of the bytes from an offset on, read as if the input began there
abbrev pub tokens_from : ℕ → List ℕ → List Lexeme
tokens_from offset bytes = runs false offset (blanked false (drop offset bytes))

-- the tokens of a text
abbrev pub tokens : List ℕ → List Lexeme
tokens bytes = tokens_from 0 bytes

-- the bytes of a token
abbrev pub text_of : List ℕ → Token → List ℕ
text_of bytes token = take token.len (drop token.start bytes)

-- the token with its bytes
abbrev pub lexeme_of : List ℕ → Token → Lexeme
lexeme_of bytes token = record { start = token.start; text = text_of bytes token }

-- the token stands within the bytes, and isn't empty
pub record IsWithin (bytes : List ℕ) (token : Token) : Type 0 where
  pub filled : 0 < token.len
  pub ends : token.start + token.len ≤ length bytes
