-- What a document says, read off its tokens by their places.
use Rattle.std.specs.Prelude.{◌≡◌, ℕ, zero, suc, ◌+◌, ◌*◌, ◌≤◌, ℤ, true, nat_eq, if◌then◌else◌, List, [], ◌∷◌, length, map, take, drop, sum_by, All, replicate, codes, Option, Some, None, IfSome, unwrap_or, Result, Ok, Err}
use Rattle.std.specs.List.{range_with_len, before_first}
use Rattle.scan.specs.First.{option_or}
use Rattle.qd_text.specs.Tokens.{Lexeme, tokens}
use Rattle.qd_text.specs.Numbers.{value}
use Rattle.cyclotomic.specs.Conductors.{is_conductor, phi_of}
use Rattle.qd_ring.specs.CycArrays.{is_array, is_small}
use Rattle.qd_doc.specs.Blocks.{Block}
use Rattle.qd_doc.specs.Values.{coefficients}
use Rattle.qd_doc.specs.Kinds.{is_word}
use Rattle.qd_doc.specs.Grammar.{Run, text_at, number_at, runs_after, stop_of}
use Rattle.qd_doc.specs.declared.document.Form.{Form}
use Rattle.qd_doc.specs.declared.document.Form.TheVariants.{Bare, WithCharacters}
use Rattle.qd_doc.specs.declared.document.Given.{Given}
use Rattle.qd_doc.specs.declared.document.Document.{Document}
use Rattle.qd_doc.specs.declared.refusal.DocRefusal.{DocRefusal}
use Rattle.qd_doc.specs.declared.refusal.DocRefusal.TheVariants.{Memory}

-- the numbers of so many tokens, from a place on
abbrev pub numbers_at : List Lexeme → ℕ → ℕ → List ℕ
numbers_at all place count = map (λ (token : Lexeme). value token.text) (take count (drop place all))

-- what is found at the greatest number below n at which something is found
unfoldable pub last_below : {A : Type 0} → ℕ → (ℕ → Option A) → Option A
last_below zero at = None
last_below (suc n) at = option_or (at n) (last_below n at)

-- the exponent that entry i of a sparse list gives at a place, if it is an entry of that place. The
-- list begins at token `start`; elements x, y, z of a group of order n name the place (x n + y) n + z
abbrev pub entry_at : List Lexeme → ℕ → ℕ → ℕ → ℕ → Option ℕ
entry_at all n start place i =
    let at = start + 4 * i in
    if nat_eq ((number_at all at * n + number_at all (at + 1)) * n + number_at all (at + 2)) place
    then Some (number_at all (at + 3)) else None

-- the exponents of a sparse list, of which a later entry of a place replaces an earlier one; 0 where
-- no entry stands
unfoldable pub sparse_exponents : List Lexeme → ℕ → ℕ → ℕ → List ℕ
sparse_exponents all n start count =
    map (λ place. unwrap_or (last_below count (entry_at all n start place)) 0) (range_with_len 0 (n * n * n))

-- all exponents, by the word for their form
unfoldable pub exponents_of : List Lexeme → ℕ → List ℕ
exponents_of all n =
    let word = text_at all (n * n + 8) in
    let start = n * n + 9 in
    if is_word word (codes "dense") then numbers_at all start (n * n * n)
    else if is_word word (codes "sparse") then sparse_exponents all n (start + 1) (number_at all start)
    else replicate (n * n * n) 0

-- how many tokens stand before the end of the exponents
unfoldable pub exponents_end : List Lexeme → ℕ
exponents_end all = sum_by (λ (run : Run). run.count) (runs_after all)

-- the words before the first that is this word
abbrev pub words_before : List ℕ → List (List ℕ) → List (List ℕ)
words_before word words = before_first (λ other. is_word other word) words

-- for each occurrence of this word, the words after it up to the next occurrence
unfoldable pub pieces : List ℕ → List (List ℕ) → List (List (List ℕ))
pieces word [] = []
pieces word (other ∷ words) =
    if is_word other word then words_before word words ∷ pieces word words else pieces word words

-- the block of these words: its number, and then its rows, each after the word `row`
abbrev pub block_of : ℕ → List (List ℕ) → Block
block_of phi [] = record { representative = 0; rows = [] }
block_of phi (number ∷ words) = record {
  representative = value number;
  rows = map (λ row. map (coefficients phi) row) (pieces (codes "row") words);
}

-- the blocks of these words up to `end`, each after the word `class`; values have phi coefficients
unfoldable pub blocks_of : ℕ → List (List ℕ) → List Block
blocks_of phi words = map (block_of phi) (pieces (codes "class") (words_before (codes "end") words))

-- what follows the exponents: in a document with characters the word `characters`, a conductor, and blocks
unfoldable pub characters_of : Form → List Lexeme → Option Given
characters_of Bare all = None
characters_of WithCharacters all =
    let conductor = number_at all (exponents_end all + 1) in
    let words = map (λ (token : Lexeme). token.text) (drop (exponents_end all + 2) all) in
    Some (record { conductor = conductor; blocks = blocks_of (phi_of conductor) words })

-- the document of a form that the tokens of a text spell
unfoldable pub document_of : Form → List Lexeme → Document
document_of form all =
    let n = number_at all 3 in
    record {
      order = n;
      table = numbers_at all 5 (n * n);
      roots = number_at all (n * n + 6);
      exponents = exponents_of all n;
      characters = characters_of form all;
    }

-- 42 coefficients, 0 from phi(K) on, and at most 2^120 - 1 in magnitude
abbrev pub IsValueOf : ℕ → List ℤ → Type 0
IsValueOf k cs = (is_array k cs ≡ true) × (is_small cs ≡ true)

-- the conductor is in the table, and the values are values of it
pub record IsGivenInRange (given : Given) : Type 0 where
  pub conductor : is_conductor given.conductor ≡ true
  pub values : All (λ (block : Block). All (λ row. All (IsValueOf given.conductor) row) block.rows) given.blocks

-- the fields are in the ranges of the format, and the lists have their lengths
pub record IsInRange (document : Document) : Type 0 where
  pub order : (1 ≤ document.order) × (document.order ≤ 60)
  pub table : length document.table ≡ document.order * document.order
  pub roots : (1 ≤ document.roots) × (document.roots ≤ 64)
  pub exponents : length document.exponents ≡ document.order * document.order * document.order
  pub characters : IfSome document.characters IsGivenInRange

-- what a reader answers to a text: its document, where it is one; or its refusal; or that there was
-- no memory, which says nothing of it
abbrev pub Parses : Form → List ℕ → Result Document DocRefusal → Type 0
Parses form bytes (Ok document) = (stop_of form bytes ≡ None) × (document ≡ document_of form (tokens bytes))
Parses form bytes (Err Memory) = Unit {0}
Parses form bytes (Err refusal) = stop_of form bytes ≡ Some refusal
