-- The canonical text of a document.
use Rattle.std.specs.Prelude.{◌≡◌, None, ℕ, zero, suc, ◌*◌, ◌%◌, ◌<◌, ◌^◌, Bool, nat_eq, if◌then◌else◌, List, [], ◌∷◌, ◌++◌, take, drop, map, codes, All, Option, Some, IfSome, ℤ, Result, MatchResult}
use Rattle.std.specs.List.{flat_map, list_all}
use Rattle.std.specs.Fmt.{decimal}
use Rattle.qd_ring.specs.ValueText.{value_text}
use Rattle.qd_doc.specs.Blocks.{Block}
use Rattle.qd_doc.specs.declared.document.Form.{Form}
use Rattle.qd_doc.specs.declared.document.Form.TheVariants.{Bare, WithCharacters}
use Rattle.qd_doc.specs.declared.document.Given.{Given}
use Rattle.qd_doc.specs.declared.document.Document.{Document}
use Rattle.qd_doc.specs.declared.refusal.DocRefusal.{DocRefusal}
use Rattle.qd_doc.specs.declared.refusal.DocRefusal.TheVariants.{Memory}
use Rattle.qd_doc.specs.Grammar.{stop_of}
use Rattle.qd_doc.specs.Contents.{IsInRange, Parses}

-- the text of a line of words: one space between them, and a line feed at its end
abbrev pub line : List (List ℕ) → List ℕ
line [] = 10 ∷ []
line (word ∷ words) = word ++ (flat_map (λ next. 32 ∷ next) words ++ 10 ∷ [])

-- so many lines of `width` numbers each
unfoldable pub rows : ℕ → ℕ → List ℕ → List (List (List ℕ))
rows zero width numbers = []
rows (suc count) width numbers = map decimal (take width numbers) ∷ rows count width (drop width numbers)

-- exponents modulo the number of roots
abbrev pub reduced : ℕ → List ℕ → List ℕ
reduced roots exponents = map (λ exponent. exponent % roots) exponents

-- whether all exponents are 0 modulo the number of roots
abbrev pub are_trivial : ℕ → List ℕ → Bool
are_trivial roots exponents = list_all (λ exponent. nat_eq (exponent % roots) 0) exponents

-- the lines of the exponents of a group of order n
unfoldable pub omega_lines : ℕ → ℕ → List ℕ → List (List (List ℕ))
omega_lines n roots exponents =
    if are_trivial roots exponents then (codes "omega" ∷ codes "trivial" ∷ []) ∷ []
    else (codes "omega" ∷ codes "dense" ∷ []) ∷ rows (n * n) n (reduced roots exponents)

-- the words of a row of values
abbrev pub row_words : List (List ℤ) → List (List ℕ)
row_words row = codes "row" ∷ map value_text row

-- the lines of a block: its number, and one for each row
abbrev pub block_lines : Block → List (List (List ℕ))
block_lines block = (codes "class" ∷ decimal block.representative ∷ []) ∷ map row_words block.rows

-- the lines between the exponents and the end
unfoldable pub characters_lines : Option Given → List (List (List ℕ))
characters_lines None = []
characters_lines (Some given) =
    (codes "characters" ∷ decimal given.conductor ∷ []) ∷ flat_map block_lines given.blocks

-- the lines of a document, each as its words
unfoldable pub canonical_lines : Document → List (List (List ℕ))
canonical_lines document =
    let n = document.order in
    ((codes "qdouble" ∷ codes "1" ∷ []) ∷ (codes "order" ∷ decimal n ∷ []) ∷ (codes "table" ∷ []) ∷ rows n n document.table)
    ++ (((codes "roots" ∷ decimal document.roots ∷ []) ∷ omega_lines n document.roots document.exponents)
    ++ (characters_lines document.characters
    ++ (codes "end" ∷ []) ∷ []))

-- the canonical text
abbrev pub canonical_text : Document → List ℕ
canonical_text document = flat_map line (canonical_lines document)

-- the document with its exponents modulo the number of roots
abbrev pub reduced_document : Document → Document
reduced_document document = record document { exponents = reduced document.roots document.exponents }

-- the form of a document
abbrev pub form_of : Option Given → Form
form_of None = Bare
form_of (Some given) = WithCharacters

-- whatever a reader answers to the canonical text is the document with its exponents modulo the
-- number of roots, unless there was no memory
abbrev pub ReadsBack : Document → Type 0
ReadsBack document = (answer : Result Document DocRefusal) → Parses (form_of document.characters) (canonical_text document) answer
    → MatchResult answer (λ read. read ≡ reduced_document document) (λ refusal. refusal ≡ Memory)

-- the numbers of a document that have no other bound fit in 32 bits
pub record IsNarrow (document : Document) : Type 0 where
  pub table : All (λ number. number < 2 ^ 32) document.table
  pub classes : IfSome document.characters (λ given. All (λ (block : Block). block.representative < 2 ^ 32) given.blocks)

-- a document whose numbers fit in 32 bits is printed as a text that is a document, and is read back
abbrev pub PrintedIsRead : Type 0
PrintedIsRead = (document : Document) → IsInRange document → IsNarrow document
    → (stop_of (form_of document.characters) (canonical_text document) ≡ None) × ReadsBack document
