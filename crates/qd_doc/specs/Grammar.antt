-- What may stand at each token of a document of version 1, and where a text first departs from it.
use Rattle.std.specs.Prelude.{ℕ, zero, suc, ◌+◌, ◌-◌, ◌*◌, nat_lt, if◌then◌else◌, List, [], ◌∷◌, ◌++◌, length, take, codes, slice_get, slice_index_or, drop, fold, Option}
use Rattle.scan.specs.First.{first}
use Rattle.qd_text.specs.Tokens.{Lexeme, tokens}
use Rattle.qd_text.specs.Numbers.{value}
use Rattle.qd_text.specs.declared.expected.Expected.TheVariants.{Qdouble, One, Order, Table, Roots, Omega, Characters}
use Rattle.cyclotomic.specs.Conductors.{phi_of}
use Rattle.qd_doc.specs.Kinds.{What, Word, Natural, OrderNumber, RootsNumber, FormWord, ElementBelow, EndWord, NoToken, ConductorNumber, ClassOrEnd, RowClassOrEnd, ValueRowClassOrEnd, is_word, judgement}
use Rattle.qd_doc.specs.declared.document.Form.{Form}
use Rattle.qd_doc.specs.declared.document.Form.TheVariants.{Bare, WithCharacters}
use Rattle.qd_doc.specs.declared.refusal.DocRefusal.{DocRefusal}

-- so many tokens one after the other, of one kind
pub record Run : Type 0 where
  pub count : ℕ
  pub kind : What

abbrev pub times : ℕ → What → Run
times count kind = record { count = count; kind = kind }

abbrev pub once : What → Run
once kind = times 1 kind

-- the bytes of the token at a place, places counted from 0
abbrev pub text_at : List Lexeme → ℕ → List ℕ
text_at all place = (slice_index_or all place (record { start = 0; text = [] })).text

-- the number that the token at a place spells
abbrev pub number_at : List Lexeme → ℕ → ℕ
number_at all place = value (text_at all place)

-- up to the form of the exponents, for the order n: the table stands at places 5 to n n + 4, the
-- roots at n n + 6, the form of the exponents at n n + 8
unfoldable pub front_runs : ℕ → List Run
front_runs n =
    once (Word Qdouble) ∷ once (Word One) ∷ once (Word Order) ∷ once OrderNumber ∷ once (Word Table)
    ∷ times (n * n) Natural
    ∷ once (Word Roots) ∷ once RootsNumber ∷ once (Word Omega) ∷ once FormWord ∷ []

-- c listed exponents, each after the three elements of its place
unfoldable pub entry_runs : ℕ → ℕ → List Run
entry_runs n zero = []
entry_runs n (suc c) = times 3 (ElementBelow n) ∷ once Natural ∷ entry_runs n c

-- the exponents by the word for their form; after `sparse` the first number says how many are listed
unfoldable pub exponent_runs : List ℕ → ℕ → ℕ → List Run
exponent_runs text n listed =
    if is_word text (codes "dense") then times (n * n * n) Natural ∷ []
    else if is_word text (codes "sparse") then once Natural ∷ entry_runs n listed
    else []

-- the tokens of a document up to the end of its exponents, where the tokens `before` come first. The
-- order is token 3. Tokens that aren't among those before count as 0: no place up to theirs depends on them
unfoldable pub runs_after : List Lexeme → List Run
runs_after before =
    let n = number_at before 3 in
    front_runs n ++ exponent_runs (text_at before (n * n + 8)) n (number_at before (n * n + 9))

-- what may stand at a place of these runs; past them, what `later` says of the places after
unfoldable pub kind_at : List Run → (ℕ → What) → ℕ → What
kind_at [] later place = later place
kind_at (run ∷ runs) later place =
    if nat_lt place run.count then run.kind else kind_at runs later (place - run.count)

-- what may stand after a token of the blocks of rows, by what may stand there and by the token's text.
-- `row` and a value lead to the values of the row, which have phi coefficients
abbrev pub what_after : ℕ → What → List ℕ → What
what_after phi Natural text = RowClassOrEnd
what_after phi kind text =
    if is_word text (codes "class") then Natural
    else if is_word text (codes "end") then NoToken
    else ValueRowClassOrEnd phi

-- what may stand after these tokens, the first of which follows the exponents: the word `characters`, a
-- conductor, and the blocks up to the word `end`
abbrev pub after_characters : List Lexeme → What
after_characters [] = Word Characters
after_characters (word ∷ []) = ConductorNumber
after_characters (word ∷ number ∷ more) =
    fold (λ kind (token : Lexeme). what_after (phi_of (value number.text)) kind token.text) ClassOrEnd more

-- what follows the exponents, after so many of the tokens `before`: in a bare document the word `end`, and
-- no token after it
abbrev pub ending : Form → List Lexeme → ℕ → What
ending Bare before zero = EndWord
ending Bare before (suc count) = NoToken
ending WithCharacters before count = after_characters (drop (length before - count) before)

-- what may stand at a token, as a function of the tokens before it
unfoldable pub expected : Form → List Lexeme → What
expected form before = kind_at (runs_after before) (ending form before) (length before)

-- the refusal at a place of the tokens of a text that ends at `offset`
abbrev pub refusal_at : Form → ℕ → List Lexeme → ℕ → Option DocRefusal
refusal_at form offset all place =
    judgement (expected form (take place all)) offset (slice_get all place)

-- the first token, or the end, that isn't of what may stand there
unfoldable pub first_refusal : Form → ℕ → List Lexeme → Option DocRefusal
first_refusal form offset all = first (length all + 1) (refusal_at form offset all)

-- the refusal of a text, if it is no document of the form
unfoldable pub stop_of : Form → List ℕ → Option DocRefusal
stop_of form bytes = first_refusal form (length bytes) (tokens bytes)
