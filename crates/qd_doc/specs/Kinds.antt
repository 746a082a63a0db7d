-- The kinds of tokens of a document, and the refusal of one that isn't of the kind that stands there.
use Rattle.std.specs.Prelude.{ℕ, Bool, ◌&&◌, ◌||◌, nat_eq, nat_lt, nat_le, if◌then◌else◌, List, codes, Option, Some, None, Result, Ok, Err}
use lib.Pointwise.{pointwise}
use Rattle.qd_text.specs.Tokens.{Lexeme}
use Rattle.qd_text.specs.Numbers.{number_of}
use Rattle.qd_text.specs.Words.{word_of}
use Rattle.qd_text.specs.declared.expected.Expected.{Expected}
use Rattle.qd_text.specs.declared.expected.Expected.TheVariants.{Number, Form as A_form, Element, Conductor, Value, End, Nothing}
use Rattle.qd_text.specs.declared.natural.NumberFault.{NumberFault}
use Rattle.qd_text.specs.declared.natural.NumberFault.TheVariants.{NotNumber, Wide as Is_wide}
use Rattle.cyclotomic.specs.Conductors.{is_conductor}
use Rattle.qd_ring.specs.declared.plain.Plain.{Plain}
use Rattle.qd_ring.specs.declared.plain.ValueFault.{ValueFault}
use Rattle.qd_ring.specs.declared.plain.ValueFault.TheVariants as faults
use Rattle.qd_doc.specs.Values.{begins_value, value_of}
use Rattle.qd_doc.specs.declared.refusal.DocRefusal.{DocRefusal}
use Rattle.qd_doc.specs.declared.refusal.DocRefusal.TheVariants.{Syntax, Wide, Section, Order, Roots}

-- what may stand at a token
pub data What : Type 0 where
  -- this word
  Word : (expected : Expected) → What
  -- a natural number
  Natural : What
  -- a natural number from 1 to 60
  OrderNumber : What
  -- a natural number from 1 to 64
  RootsNumber : What
  -- `trivial`, `dense` or `sparse`
  FormWord : What
  -- a natural number below n
  ElementBelow : (n : ℕ) → What
  -- the word `end`
  EndWord : What
  -- no token
  NoToken : What
  -- a natural number that is in the table of conductors
  ConductorNumber : What
  -- `class` or `end`
  ClassOrEnd : What
  -- `row`, `class` or `end`
  RowClassOrEnd : What
  -- a value with so many coefficients, `row`, `class` or `end`
  ValueRowClassOrEnd : (phi : ℕ) → What

-- whether a token is this word
abbrev pub is_word : List ℕ → List ℕ → Bool
is_word text word = pointwise nat_eq text word

abbrev pub is_form : List ℕ → Bool
is_form text = is_word text (codes "trivial") || is_word text (codes "dense") || is_word text (codes "sparse")

-- the refusal of a natural number that isn't of a kind, by its value and the offset of its token
abbrev pub value_refusal : What → ℕ → ℕ → Option DocRefusal
value_refusal OrderNumber start n = if nat_le 1 n && nat_le n 60 then None else Some (Order n)
value_refusal RootsNumber start n = if nat_le 1 n && nat_le n 64 then None else Some (Roots n)
value_refusal (ElementBelow order) start n = if nat_lt n order then None else Some (Syntax start Element)
value_refusal ConductorNumber start n = if is_conductor n then None else Some (Syntax start Conductor)
value_refusal kind start n = None

-- the refusal of a token that has to be a natural number of a kind
abbrev pub number_refusal : What → ℕ → Result ℕ NumberFault → Option DocRefusal
number_refusal kind start (Ok n) = value_refusal kind start n
number_refusal kind start (Err NotNumber) = Some (Syntax start Number)
number_refusal kind start (Err Is_wide) = Some (Wide start)

-- one of the words that may stand between blocks
abbrev pub is_class_or_end : List ℕ → Bool
is_class_or_end text = is_word text (codes "class") || is_word text (codes "end")

-- one of the words that may stand after the number of a block, or after a row
abbrev pub is_row_class_or_end : List ℕ → Bool
is_row_class_or_end text = is_word text (codes "row") || is_class_or_end text

-- the refusal of a token that has to be a value, by what it says as one
abbrev pub fault_refusal : ℕ → Result Plain ValueFault → Option DocRefusal
fault_refusal start (Ok p) = None
fault_refusal start (Err faults.NotValue) = Some (Syntax start Value)
fault_refusal start (Err faults.Wide) = Some (Wide start)

-- the refusal of a token that isn't what may stand there
unfoldable pub refusal : What → Lexeme → Option DocRefusal
refusal (Word expected) token =
    if is_word token.text (word_of expected) then None else Some (Syntax token.start expected)
refusal FormWord token = if is_form token.text then None else Some (Syntax token.start A_form)
refusal EndWord token =
    if is_word token.text (codes "end") then None
    else if is_word token.text (codes "characters") then Some (Section token.start)
    else Some (Syntax token.start End)
refusal NoToken token = Some (Syntax token.start Nothing)
refusal ClassOrEnd token = if is_class_or_end token.text then None else Some (Syntax token.start End)
refusal RowClassOrEnd token = if is_row_class_or_end token.text then None else Some (Syntax token.start End)
refusal (ValueRowClassOrEnd phi) token =
    if begins_value token.text then fault_refusal token.start (value_of phi token.text)
    else if is_row_class_or_end token.text then None
    else Some (Syntax token.start End)
refusal kind token = number_refusal kind token.start (number_of token.text)

-- what is expected where a token of a kind has to stand
abbrev pub wanted : What → Expected
wanted (Word expected) = expected
wanted Natural = Number
wanted OrderNumber = Number
wanted RootsNumber = Number
wanted FormWord = A_form
wanted (ElementBelow n) = Number
wanted EndWord = End
wanted NoToken = Nothing
wanted ConductorNumber = Number
wanted ClassOrEnd = End
wanted RowClassOrEnd = End
wanted (ValueRowClassOrEnd phi) = End

-- the refusal where a text ends, at this offset, if a token has to stand there
unfoldable pub missing : What → ℕ → Option DocRefusal
missing NoToken offset = None
missing kind offset = Some (Syntax offset (wanted kind))

-- the refusal of a token, or of the end at this offset
abbrev pub judgement : What → ℕ → Option Lexeme → Option DocRefusal
judgement kind offset None = missing kind offset
judgement kind offset (Some token) = refusal kind token
